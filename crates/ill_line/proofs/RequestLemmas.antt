-- Relates the request of a command line to the arguments that the parser has found.
use Rattle.std.proofs.Common.{rules, ◌≡◌, ℕ, ◌-◌, Bool, true, false, true≢false, Bor, List, [], ◌∷◌, length, map, take, Option}
use Rattle.std.proofs.Common.{Some, None, Result, Ok, Err, refl, sym, ap, subst, ◌∙◌}
use Rattle.std.proofs.lemmas.List.{length-map, take-map}
use Rattle.std.specs.Prelude.{is_none, not, ◌||◌, ◌&&◌, if◌then◌else◌, Box, option_map, IsErrAnd}
use Rattle.std.specs.List.{list_any}
use Rattle.std.specs.Box.{box_value}
use Rattle.std.specs.Result.{result_ok}
use Rattle.clap.specs.declared.parser.matches.ArgMatches.{ArgMatches}
use Rattle.clap.specs.declared.parser.matches.SubCommand.{SubCommand}
use Rattle.clap.specs.declared.parser.matches.ArgMatches.TheViews.{out-ArgMatches, out-SubCommand}
use Rattle.clap.specs.Matches.{found_of, first_value, matched_of, raw_values, subcommand_name_of}
use Rattle.clap.specs.Walk.{Row, Text, rows_of, first_of, all_of}
use Rattle.clap.specs.Simple.{subcommand_rows, subcommand_rows_of}
use Rattle.clap.proofs.WalkLemmas.{first_value-rows, raw_values-rows}
use Rattle.ill_values.specs.Day.{Date}
use Rattle.ill_values.specs.declared.fault.DayFault.{DayFault}
use Rattle.ill_days.specs.Days.{read_day}
use Rattle.ill_words.specs.Words.{◌>>=◌, number_of}
use Rattle.ill_text.specs.declared.fault.ToolFault.TheVariants.{Arguments, OutOfMemory}
use Rattle.ill_line.specs.declared.request.Refusal.{Refusal}
use Rattle.ill_line.specs.declared.request.Refusal.TheVariants.{Usage, Fault}
use Rattle.ill_line.specs.declared.command_line.Argument.{Argument}
use Rattle.ill_line.specs.CommandLine.{id_of, is_option}
use Rattle.ill_line.specs.declared.command_line.Argument.TheVariants.{Ahead, DueBefore, InState, Last}
use Rattle.ill_line.specs.Asked.{Asked, Act, Note, IsRefusal, text_of, texts_of, day_in, day_said, state_in, state_said}
use Rattle.ill_line.specs.Asked.{ReadsValue, ahead_in, days_said, day_or_days, due_in, due_said, last_in, number_said}
use Rattle.ill_line.specs.Asked.{end_with_dashes, has_option, said_free, unless_option}
use Rattle.ill_core.specs.State.{state_named}
use Rattle.ill_core.specs.declared.state.State.{State}

-- If `said` is the first value that the parser `m` has under `id`, the name of `argument`, `text_of` returns it.
pub text_said : (m : ArgMatches) (id : List ℕ) (argument : Argument) (said : Option (List ℕ)) → id ≡ id_of argument
    → said ≡ first_value (found_of m) id
    → text_of argument (rows_of (found_of m)) ≡ said
text_said m id argument said named is =
    ap (λ (id : List ℕ). first_of id (rows_of (found_of m))) (sym named) ∙ sym (first_value-rows (found_of m) id) ∙ sym is

-- The parser `m` has no value under `id`, the name of `argument`. Then a `refusal` that is justified for None is
-- justified for the text of `argument`.
pub none_said : (m : ArgMatches) (id : List ℕ) (argument : Argument) (refusal : Refusal) → id ≡ id_of argument
    → None ≡ first_value (found_of m) id → IsRefusal true refusal
    → IsRefusal (is_none (text_of argument (rows_of (found_of m)))) refusal
none_said m id argument refusal named is right =
    subst (λ (nothing : Bool). IsRefusal nothing refusal) (sym (ap is_none (text_said m id argument None named is))) right

-- If `word` is the text of `argument`, `day_in` returns the day of `read`, which `read_day` returns for `word`.
-- `day_in` is None if `read` is a fault.
pub day_read : (m : ArgMatches) (id word bytes : List ℕ) (argument : Argument) (read : Result Date DayFault)
    → id ≡ id_of argument → Some word ≡ first_value (found_of m) id → bytes ≡ word
    → read ≡ read_day bytes → day_in argument (rows_of (found_of m)) ≡ option_map Some (result_ok read)
day_read m id word bytes argument read named is same reads =
    ap day_said (text_said m id argument (Some word) named is)
    ∙ ap (λ (read : Result Date DayFault). option_map Some (result_ok read)) (sym (reads ∙ ap read_day same))

-- If `word` is the text of `--state`, `state_in` returns the state `read`, which `state_named` returns for `word`.
-- `state_in` is None if `read` is None: `word` names no state.
pub state_read : (m : ArgMatches) (id word bytes : List ℕ) (read : Option State) → id ≡ id_of InState
    → Some word ≡ first_value (found_of m) id → bytes ≡ word
    → read ≡ state_named bytes → state_in (rows_of (found_of m)) ≡ option_map Some read
state_read m id word bytes read named is same reads =
    ap state_said (text_said m id InState (Some word) named is)
    ∙ ap (λ (read : Option State). option_map Some read) (sym (reads ∙ ap state_named same))

-- If `word` is the text of `--ahead`, `ahead_in` returns `read`, which `number_of` returns for `word`.
pub ahead_read : (m : ArgMatches) (id word bytes : List ℕ) (read : Option ℕ) → id ≡ id_of Ahead
    → Some word ≡ first_value (found_of m) id → bytes ≡ word
    → read ≡ number_of bytes → ahead_in (rows_of (found_of m)) ≡ read
ahead_read m id word bytes read named is same reads =
    ap days_said (text_said m id Ahead (Some word) named is) ∙ sym (reads ∙ ap number_of same)

-- If `word` is the text of `--last`, `last_in` returns the number `read`, which `number_of` returns for `word`.
-- `last_in` is None if `read` is None: `word` is no number.
pub last_read : (m : ArgMatches) (id word bytes : List ℕ) (read : Option ℕ) → id ≡ id_of Last
    → Some word ≡ first_value (found_of m) id → bytes ≡ word
    → read ≡ number_of bytes → last_in (rows_of (found_of m)) ≡ option_map Some read
last_read m id word bytes read named is same reads =
    ap number_said (text_said m id Last (Some word) named is)
    ∙ ap (λ (read : Option ℕ). option_map Some read) (sym (reads ∙ ap number_of same))

-- If `word` is the text of `--due-before`, `due_in` returns the day `read`, which `day_or_days` returns for `word`.
-- `due_in` is None if `read` is None: `word` says no day.
pub due_read : (m : ArgMatches) (id word bytes : List ℕ) (today : Option Date) (read : Option Date) → id ≡ id_of DueBefore
    → Some word ≡ first_value (found_of m) id → bytes ≡ word
    → read ≡ day_or_days today bytes → due_in today (rows_of (found_of m)) ≡ option_map Some read
due_read m id word bytes today read named is same reads =
    ap (due_said today) (text_said m id DueBefore (Some word) named is)
    ∙ ap (λ (read : Option Date). option_map Some read) (sym (reads ∙ ap (day_or_days today) same))

-- If `said` are all values that the parser `m` has under `id`, the name of `argument`, `texts_of` returns them.
pub texts_said : (m : ArgMatches) (id : List ℕ) (argument : Argument) (said : Option (List (List ℕ)))
    → id ≡ id_of argument → said ≡ option_map raw_values (matched_of (found_of m) id)
    → texts_of argument (rows_of (found_of m)) ≡ said
texts_said m id argument said named is =
    ap (λ (id : List ℕ). all_of id (rows_of (found_of m))) (sym named) ∙ sym (raw_values-rows (found_of m) id) ∙ sym is

-- The parser `m` has no values under `id`, the name of `argument`. Then a `refusal` that is justified for None is
-- justified for the texts of `argument`.
pub no_texts_said : (m : ArgMatches) (id : List ℕ) (argument : Argument) (refusal : Refusal) → id ≡ id_of argument
    → None ≡ option_map raw_values (matched_of (found_of m) id) → IsRefusal true refusal
    → IsRefusal (is_none (texts_of argument (rows_of (found_of m)))) refusal
no_texts_said m id argument refusal named is right =
    subst (λ (nothing : Bool). IsRefusal nothing refusal) (sym (ap is_none (texts_said m id argument None named is))) right

-- If the parser met the subcommand `word` with `rows`, `subcommand_rows_of` returns both.
pub subcommand_met : (m : ArgMatches) (word : List ℕ) (rows : List Row) → Some word ≡ subcommand_name_of m
    → Some rows ≡ option_map (λ (said : Text × List Row). said.1) (subcommand_rows_of m)
    → subcommand_rows_of m ≡ Some (word, rows)
subcommand_met m word rows named has = go (out-ArgMatches m).subcommand named has
  where
    -- The lemma for `sub`, the subcommand that the parser has.
    go : {Z : Type 0} (sub : Option (Box SubCommand Z))
        → Some word ≡ option_map (λ b. (out-SubCommand (box_value b)).name.now) sub
        → Some rows ≡ option_map (λ (said : Text × List Row). said.1) (subcommand_rows sub)
        → subcommand_rows sub ≡ Some (word, rows)
    go None named has = cc
    go (Some sub) named has = cc

-- If `refusal` is justified for `said`, it is justified for `said >>= next`. So what refuses the first argument refuses
-- the request.
pub refused_on : {A B : Type 0} (said : Option A) (next : A → Option B) (refusal : Refusal)
    → IsRefusal (is_none said) refusal → IsRefusal (is_none (said >>= next)) refusal
refused_on None next refusal right = right
refused_on (Some value) next (Usage error) right = search rules
refused_on (Some value) next (Fault Arguments) right = search rules
refused_on (Some value) next (Fault OutOfMemory) right = right
refused_on (Some value) next (Fault other) right = search rules

-- If `refusal` is justified for `said`, it is justified for what `of` makes of `said`.
pub refused_mapped : {A B : Type 0} (said : Option A) (of : A → B) (refusal : Refusal)
    → IsRefusal (is_none said) refusal → IsRefusal (is_none (option_map of said)) refusal
refused_mapped None of refusal right = right
refused_mapped (Some value) of refusal right = right

-- If `result` is the error `refusal`, and `refusal` is justified for `said`, `result` reads `said`.
pub error_reads : {A B : Type 0} (of : B → A) (said : Option A) (result : Result B Refusal) (refusal : Refusal)
    → IsErrAnd result (λ given. given ≡ refusal) → IsRefusal (is_none said) refusal → ReadsValue of said result
error_reads of said (Ok read) refusal is right = absurd is
error_reads of said (Err given) refusal is right = subst (λ refusal. IsRefusal (is_none said) refusal) (sym is) right

-- If `first` is `value`, a `refusal` that is justified for `rest value` is justified for `first >>= rest`.
pub refused_at : {A B : Type 0} (first : Option A) (value : A) (rest : A → Option B) (refusal : Refusal)
    → first ≡ Some value → IsRefusal (is_none (rest value)) refusal → IsRefusal (is_none (first >>= rest)) refusal
refused_at {A} first value rest refusal is right =
    subst (λ (said : Option A). IsRefusal (is_none (said >>= rest)) refusal) (sym is) right

-- If `first` is `value` and `rest value` is `result`, `first >>= rest` is `result`.
pub said_at : {A B : Type 0} (first : Option A) (value : A) (rest : A → Option B) (result : Option B)
    → first ≡ Some value → rest value ≡ result → (first >>= rest) ≡ result
said_at {A} first value rest result is right = subst (λ (said : Option A). (said >>= rest) ≡ result) (sym is) right

-- If `first` is `value`, a `refusal` that is justified for `second` is justified for the chain of all three: `first`,
-- then `second`, then `next` of both values.
pub refused_after : {A B C : Type 0} (first : Option A) (value : A) (second : Option B) (next : A → B → Option C)
    (refusal : Refusal)
    → first ≡ Some value
    → IsRefusal (is_none second) refusal → IsRefusal (is_none (first >>= λ value. second >>= next value)) refusal
refused_after {A} first value second next refusal is right =
    subst (λ (first : Option A). IsRefusal (is_none (first >>= λ value. second >>= next value)) refusal) (sym is)
    (refused_on second (next value) refusal right)

-- If `first` is `a` and `second` is `b`, a `refusal` that is justified for `third` is justified for the chain. The
-- chain is `first`, then `second`, then `third`, then `next` of the three values.
pub refused_third : {A B C D : Type 0} (first : Option A) (a : A) (second : Option B) (b : B) (third : Option C)
    (next : A → B → C → Option D) (refusal : Refusal)
    → first ≡ Some a
    → second ≡ Some b → IsRefusal (is_none third) refusal
    → IsRefusal (is_none (first >>= λ a. second >>= λ b. third >>= next a b)) refusal
refused_third {A} first a second b third next refusal is also right =
    subst (λ (first : Option A). IsRefusal (is_none (first >>= λ a. second >>= λ b. third >>= next a b)) refusal) (sym is)
    (refused_after second b third (next a) refusal also right)

-- If `first` is `a` and `result` reads `next a`, `result` reads `first >>= next`.
pub read_after : {A B C : Type 0} (first : Option A) (a : A) (next : A → Option B) (of : C → B) (result : Result C Refusal)
    → first ≡ Some a → ReadsValue of (next a) result → ReadsValue of (first >>= next) result
read_after first a next of result is right =
    subst (λ read. ReadsValue of (read >>= next) result) (sym is) right

-- `first` is the number of the words before `action`. `met` is true if and only if the last of them is `--`. Then
-- `end_with_dashes` returns `met` for the texts of `words` before the texts of `action`.
dashes_met : (words action : List (Bor (List ℕ))) (first : ℕ) (met : Bool) → first ≡ length words - length action
    → met ≡ end_with_dashes (map (λ word. word.now) (take first words))
    → end_with_dashes (take (length (map (λ word. word.now) words) - length (map (λ word. word.now) action))
    (map (λ word. word.now) words)) ≡ met
dashes_met words action first met is ends =
    let text : Bor (List ℕ) → List ℕ = λ word. word.now in
    ap (λ (size : ℕ). end_with_dashes (take (size - length (map text action)) (map text words))) (length-map words text)
    ∙ ap (λ (size : ℕ). end_with_dashes (take (length words - size) (map text words))) (length-map action text)
    ∙ ap (λ (first : ℕ). end_with_dashes (take first (map text words))) (sym is) ∙ ap end_with_dashes (take-map text first words)
    ∙ sym ends

-- `test` is true of some text of `words` if and only if some word has a text that passes it.
any_text : (test : List ℕ → Bool) (words : List (Bor (List ℕ)))
    → list_any test (map (λ word. word.now) words) ≡ list_any (λ (word : Bor (List ℕ)). test word.now) words
any_text test [] = refl
any_text test (word ∷ words) = ap (λ (rest : Bool). test word.now || rest) (any_text test words)

-- `first` is the number of the words before `action`. `met` is true if and only if the last of them is `--`. Then
-- `has_option` is true if and only if `met` is false and a word of `action` is an option.
pub options_met : (words action : List (Bor (List ℕ))) (first : ℕ) (met : Bool) → first ≡ length words - length action
    → met ≡ end_with_dashes (map (λ word. word.now) (take first words))
    → has_option (map (λ word. word.now) words) (map (λ word. word.now) action)
    ≡ (not met && list_any (λ (word : Bor (List ℕ)). is_option word.now) action)
options_met words action first met is ends =
    let text : Bor (List ℕ) → List ℕ = λ word. word.now in
    ap (λ (met : Bool). not met && list_any is_option (map text action)) (dashes_met words action first met is ends)
    ∙ ap (λ (any : Bool). not met && any) (any_text is_option action)

-- If `if has then None else Some asked` is not None, it is Some `asked`.
unless_keeps : (has : Bool) (asked : Asked) → is_none (if has then None else Some asked) ≡ false
    → (if has then None else Some asked) ≡ Some asked
unless_keeps true asked is = absurd (true≢false is)
unless_keeps false asked is = refl

-- If `unless_option words asked` is not None, it is Some `asked`.
unless_option_keeps : (words : List (List ℕ)) (asked : Asked) → is_none (unless_option words asked) ≡ false
    → unless_option words asked ≡ Some asked
unless_option_keeps words (Act file asking by is_long is_new_group) is =
    unless_keeps (has_option words asking.words) (Act file asking by is_long is_new_group) is
unless_option_keeps words (Note file txn note) is = unless_keeps (has_option words note) (Note file txn note) is
unless_option_keeps words other is = refl

-- If `said` is `asked` and `unless_option` does not refuse it, `said_free words said` is `asked`.
pub said_free_keeps : (words : List (List ℕ)) (said : Option Asked) (asked : Asked) → said ≡ Some asked
    → is_none (unless_option words asked) ≡ false → said_free words said ≡ Some asked
said_free_keeps words said asked is free =
    ap (said_free words) is ∙ unless_option_keeps words asked free
