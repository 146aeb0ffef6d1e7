-- Proves the clause `prefix` of `push_shown` (`src/shown.rt`) for each part at which memory may run out. The parts
-- that were added are a prefix of the text. In the answers, `named` is `lines` after the state, and `spaced` after the
-- space. `dated` is `lines` after the due date, and `apart` after the next space. `counted` is `lines` after the
-- released count, and `stroked` after the slash.
use Rattle.std.proofs.Common.{rules, ◌≡◌, ℕ, ◌<◌, List, ◌++◌, ◌∷◌, [], codes, length, ap, ◌∙◌, arith, append_assoc, length-append}
use Rattle.std.specs.Fmt.{decimal}
use Rattle.ill_core.specs.State.{state_name}
use Rattle.ill_der.specs.Adding.{AddsPrefix}
use Rattle.ill_saved.specs.declared.shown.Shown.{Shown}
use Rattle.ill_words.specs.Shown.{due_text, shown_text}
use Rattle.ill_der.proofs.AddingLemmas.{adds_nothing, adds_first, adds_second, adds_last, at_err}
use Rattle.ill_words.proofs.shown.push_shown.Goals as goal

-- Returns the text of a side up to the space after its state.
abbrev to_space : Shown → List ℕ
to_space shown = state_name shown.state ++ codes " "

-- Returns the text of a side up to its due date.
abbrev to_due : Shown → List ℕ
to_due shown = to_space shown ++ due_text shown.due

-- Returns the text of a side up to the space after its due date.
abbrev to_gap : Shown → List ℕ
to_gap shown = to_due shown ++ codes " "

-- Returns the text of a side up to the count of its released messages.
abbrev to_released : Shown → List ℕ
to_released shown = to_gap shown ++ decimal shown.released

-- Returns the text of a side up to the slash.
abbrev to_stroke : Shown → List ℕ
to_stroke shown = to_released shown ++ codes "/"

-- Below, `old` is the content of `lines` before the call, and `new` the content after it.
module _ (shown : Shown) (old new : List ℕ) where
  -- A prefix of the text up to the slash is a prefix of the whole text.
  stroke_all : AddsPrefix old new (to_stroke shown) → AddsPrefix old new (shown_text shown)
  unfolding shown_text
  stroke_all is = adds_first old new (to_stroke shown) (decimal shown.issued) is

  -- A prefix of the text up to the released count is a prefix of the whole text.
  released_all : AddsPrefix old new (to_released shown) → AddsPrefix old new (shown_text shown)
  released_all is = stroke_all (adds_first old new (to_released shown) (codes "/") is)

  -- A prefix of the text up to the space after the due date is a prefix of the whole text.
  gap_all : AddsPrefix old new (to_gap shown) → AddsPrefix old new (shown_text shown)
  gap_all is = released_all (adds_first old new (to_gap shown) (decimal shown.released) is)

  -- A prefix of the text up to the due date is a prefix of the whole text.
  due_all : AddsPrefix old new (to_due shown) → AddsPrefix old new (shown_text shown)
  due_all is = gap_all (adds_first old new (to_due shown) (codes " ") is)

  -- A prefix of the text up to the space after the state is a prefix of the whole text.
  space_all : AddsPrefix old new (to_space shown) → AddsPrefix old new (shown_text shown)
  space_all is = due_all (adds_first old new (to_space shown) (due_text shown.due) is)

-- If `middle` is `old ++ text`, and `next` is `middle ++ part`, `next` is `old` and then `text ++ part`.
one_more : (old middle next text part : List ℕ) → middle ≡ old ++ text → next ≡ middle ++ part → next ≡ old ++ (text ++ part)
one_more old middle next text part before more = more ∙ ap (λ (x : List ℕ). x ++ part) before ∙ append_assoc old text part

-- If `text` was added, and the byte after it was not, a prefix of both was added.
no_byte : (old middle new text : List ℕ) (byte : ℕ) → middle ≡ old ++ text → new ≡ middle → AddsPrefix old new (text ++ byte ∷ [])
no_byte old middle new text byte before stays =
    adds_second old middle new text (byte ∷ []) before (adds_nothing middle new (byte ∷ []) stays (omega arith))

-- A text with a byte after it is not empty.
some_there : (text : List ℕ) (byte : ℕ) → 0 < length (text ++ byte ∷ [])
some_there text byte = omega (arith, length-append text (byte ∷ []))

-- If memory runs out at the state, nothing was added. Below, `to_2` to `to_6` say that the first 2 to 6 parts of the
-- text were added.
pub returns-in_err-extend_from_slice-clause-prefix : goal.returns-in_err-extend_from_slice-clause-prefix
returns-in_err-extend_from_slice-clause-prefix c =
    let shown = c.args.shown in
    let old = c.args.lines.now.items in
    let stays : c.extend_from_slice.new.self.items ≡ old = search rules in
    at_err c.from_residual.result (space_all shown old _
    (adds_nothing old _ (to_space shown) stays (some_there (state_name shown.state) 32)))

-- If memory runs out at the space after the state, the state was added.
pub returns-in_err-push-clause-prefix : goal.returns-in_err-push-clause-prefix
returns-in_err-push-clause-prefix c =
    let shown = c.args.shown in
    let old = c.args.lines.now.items in
    let named = c.extend_from_slice.new.self.items in
    let name : named ≡ old ++ state_name shown.state = search rules in
    let stays : c.push.new.self.items ≡ named = search rules in
    at_err c.from_residual-in_err-push.result (space_all shown old _ (no_byte old named _ (state_name shown.state) 32 name stays))

-- If memory runs out at the due date, a prefix of it was added after the first two parts.
pub returns-in_err-push_due-clause-prefix : goal.returns-in_err-push_due-clause-prefix
returns-in_err-push_due-clause-prefix c =
    let shown = c.args.shown in
    let old = c.args.lines.now.items in
    let named = c.extend_from_slice.new.self.items in
    let name : named ≡ old ++ state_name shown.state = search rules in
    let spaced = c.push.new.self.items in
    let space : spaced ≡ named ++ codes " " = search rules in
    let to_2 = one_more old named spaced (state_name shown.state) (codes " ") name space in
    at_err c.from_residual-in_err-push_due.result
    (due_all shown old _ (adds_second old spaced _ (to_space shown) (due_text shown.due) to_2
    c.in_err-push_due.ensures.prefix))

-- If memory runs out at the space after the due date, the first three parts were added.
pub returns-in_err-push-2-clause-prefix : goal.returns-in_err-push-2-clause-prefix
returns-in_err-push-2-clause-prefix c =
    let shown = c.args.shown in
    let old = c.args.lines.now.items in
    let named = c.extend_from_slice.new.self.items in
    let name : named ≡ old ++ state_name shown.state = search rules in
    let spaced = c.push.new.self.items in
    let space : spaced ≡ named ++ codes " " = search rules in
    let to_2 = one_more old named spaced (state_name shown.state) (codes " ") name space in
    let dated = c.push_due.new.lines.items in
    let to_3 = one_more old spaced dated (to_space shown) (due_text shown.due) to_2 c.in_ok-push_due.ensures.text in
    let stays : c.push-2.new.self.items ≡ dated = search rules in
    at_err c.from_residual-in_err-push-2.result (gap_all shown old _ (no_byte old dated _ (to_due shown) 32 to_3 stays))

-- If memory runs out at the count of released messages, its prefix was added after the first four parts.
pub returns-in_err-push_number-clause-prefix : goal.returns-in_err-push_number-clause-prefix
returns-in_err-push_number-clause-prefix c =
    let shown = c.args.shown in
    let old = c.args.lines.now.items in
    let named = c.extend_from_slice.new.self.items in
    let name : named ≡ old ++ state_name shown.state = search rules in
    let spaced = c.push.new.self.items in
    let space : spaced ≡ named ++ codes " " = search rules in
    let to_2 = one_more old named spaced (state_name shown.state) (codes " ") name space in
    let dated = c.push_due.new.lines.items in
    let to_3 = one_more old spaced dated (to_space shown) (due_text shown.due) to_2 c.in_ok-push_due.ensures.text in
    let apart = c.push-2.new.self.items in
    let gap : apart ≡ dated ++ codes " " = search rules in
    let to_4 = one_more old dated apart (to_due shown) (codes " ") to_3 gap in
    at_err c.from_residual-in_err-push_number.result
    (released_all shown old _ (adds_second old apart _ (to_gap shown) (decimal shown.released) to_4
    c.in_err-push_number.ensures.prefix))

-- If memory runs out at the slash, the first five parts were added.
pub returns-in_err-push-3-clause-prefix : goal.returns-in_err-push-3-clause-prefix
returns-in_err-push-3-clause-prefix c =
    let shown = c.args.shown in
    let old = c.args.lines.now.items in
    let named = c.extend_from_slice.new.self.items in
    let name : named ≡ old ++ state_name shown.state = search rules in
    let spaced = c.push.new.self.items in
    let space : spaced ≡ named ++ codes " " = search rules in
    let to_2 = one_more old named spaced (state_name shown.state) (codes " ") name space in
    let dated = c.push_due.new.lines.items in
    let to_3 = one_more old spaced dated (to_space shown) (due_text shown.due) to_2 c.in_ok-push_due.ensures.text in
    let apart = c.push-2.new.self.items in
    let gap : apart ≡ dated ++ codes " " = search rules in
    let to_4 = one_more old dated apart (to_due shown) (codes " ") to_3 gap in
    let counted = c.push_number.new.lines.items in
    let to_5 = one_more old apart counted (to_gap shown) (decimal shown.released) to_4 c.in_ok-push_number.ensures.text in
    let stays : c.push-3.new.self.items ≡ counted = search rules in
    at_err c.from_residual-in_err-push-3.result (stroke_all shown old _ (no_byte old counted _ (to_released shown) 47 to_5 stays))

-- If memory runs out at the last count, a prefix of it was added after the first six parts.
pub returns-clause-prefix : goal.returns-clause-prefix
unfolding shown_text
returns-clause-prefix c =
    let shown = c.args.shown in
    let old = c.args.lines.now.items in
    let named = c.extend_from_slice.new.self.items in
    let name : named ≡ old ++ state_name shown.state = search rules in
    let spaced = c.push.new.self.items in
    let space : spaced ≡ named ++ codes " " = search rules in
    let to_2 = one_more old named spaced (state_name shown.state) (codes " ") name space in
    let dated = c.push_due.new.lines.items in
    let to_3 = one_more old spaced dated (to_space shown) (due_text shown.due) to_2 c.in_ok-push_due.ensures.text in
    let apart = c.push-2.new.self.items in
    let gap : apart ≡ dated ++ codes " " = search rules in
    let to_4 = one_more old dated apart (to_due shown) (codes " ") to_3 gap in
    let counted = c.push_number.new.lines.items in
    let to_5 = one_more old apart counted (to_gap shown) (decimal shown.released) to_4 c.in_ok-push_number.ensures.text in
    let stroked = c.push-3.new.self.items in
    let stroke : stroked ≡ counted ++ codes "/" = search rules in
    let to_6 = one_more old counted stroked (to_released shown) (codes "/") to_5 stroke in
    adds_last c.push_number-2.result old stroked _ (to_stroke shown) (decimal shown.issued) to_6 c.push_number-2.ensures.prefix
