-- Answers the contract of `take_input` (`src/take.rt`).
use Rattle.std.proofs.Common.{Ok, Err}
use Rattle.ill_desk.specs.Performing.{view_of}
use Rattle.ill_desk.proofs.TakeLemmas.{input_taken}
use Rattle.ill_desk.proofs.take.take_input.Goals as goal

-- Proves the clause `runs` of `take_input` if the input ends well. The lemma `input_taken` gives it.
pub returns-in-Ok-clause-runs : goal.returns-in-Ok-clause-runs
returns-in-Ok-clause-runs g c =
    let taken =
    input_taken g.H.Held.effects (view_of g.S.Store.state) (λ k. (g.S.Store.state k.store).failures)
    g.F.Write.contents g.W.Write.contents _ _
    (c.args.taken.now.handler, c.args.writer.now) (c.handle_input.new.counted.handler, c.handle_input.new.context)
    (Ok c.in-Ok.field-0) c.requires.fine c.in-Ok.ensures in
    taken.runs

-- Proves the clause `same_keeper` of `take_input` if the input ends well. The lemma `input_taken` gives it.
pub returns-in-Ok-clause-same_keeper : goal.returns-in-Ok-clause-same_keeper
returns-in-Ok-clause-same_keeper g c =
    let taken =
    input_taken g.H.Held.effects (view_of g.S.Store.state) (λ k. (g.S.Store.state k.store).failures)
    g.F.Write.contents g.W.Write.contents _ _
    (c.args.taken.now.handler, c.args.writer.now) (c.handle_input.new.counted.handler, c.handle_input.new.context)
    (Ok c.in-Ok.field-0) c.requires.fine c.in-Ok.ensures in
    taken.same_keeper

-- Proves the clause `same_came` of `take_input` if the input ends well. The lemma `input_taken` gives it.
pub returns-in-Ok-clause-same_came : goal.returns-in-Ok-clause-same_came
returns-in-Ok-clause-same_came g c =
    let taken =
    input_taken g.H.Held.effects (view_of g.S.Store.state) (λ k. (g.S.Store.state k.store).failures)
    g.F.Write.contents g.W.Write.contents _ _
    (c.args.taken.now.handler, c.args.writer.now) (c.handle_input.new.counted.handler, c.handle_input.new.context)
    (Ok c.in-Ok.field-0) c.requires.fine c.in-Ok.ensures in
    taken.same_came

-- Proves the clause `counted` of `take_input` if the input ends well. The lemma `input_taken` gives it.
pub returns-in-Ok-clause-counted : goal.returns-in-Ok-clause-counted
returns-in-Ok-clause-counted g c =
    let taken =
    input_taken g.H.Held.effects (view_of g.S.Store.state) (λ k. (g.S.Store.state k.store).failures)
    g.F.Write.contents g.W.Write.contents _ _
    (c.args.taken.now.handler, c.args.writer.now) (c.handle_input.new.counted.handler, c.handle_input.new.context)
    (Ok c.in-Ok.field-0) c.requires.fine c.in-Ok.ensures in
    taken.counted

-- Proves the clause `runs` of `take_input` if the input ends with a fault. The lemma `input_taken` gives it.
pub returns-in-Err-clause-runs : goal.returns-in-Err-clause-runs
returns-in-Err-clause-runs g c =
    let taken =
    input_taken g.H.Held.effects (view_of g.S.Store.state) (λ k. (g.S.Store.state k.store).failures)
    g.F.Write.contents g.W.Write.contents _ _
    (c.args.taken.now.handler, c.args.writer.now) (c.handle_input.new.counted.handler, c.handle_input.new.context)
    (Err c.in-Err.fault) c.requires.fine c.in-Err.ensures in
    taken.runs

-- Proves the clause `same_keeper` of `take_input` if the input ends with a fault. The lemma `input_taken` gives it.
pub returns-in-Err-clause-same_keeper : goal.returns-in-Err-clause-same_keeper
returns-in-Err-clause-same_keeper g c =
    let taken =
    input_taken g.H.Held.effects (view_of g.S.Store.state) (λ k. (g.S.Store.state k.store).failures)
    g.F.Write.contents g.W.Write.contents _ _
    (c.args.taken.now.handler, c.args.writer.now) (c.handle_input.new.counted.handler, c.handle_input.new.context)
    (Err c.in-Err.fault) c.requires.fine c.in-Err.ensures in
    taken.same_keeper

-- Proves the clause `same_came` of `take_input` if the input ends with a fault. The lemma `input_taken` gives it.
pub returns-in-Err-clause-same_came : goal.returns-in-Err-clause-same_came
returns-in-Err-clause-same_came g c =
    let taken =
    input_taken g.H.Held.effects (view_of g.S.Store.state) (λ k. (g.S.Store.state k.store).failures)
    g.F.Write.contents g.W.Write.contents _ _
    (c.args.taken.now.handler, c.args.writer.now) (c.handle_input.new.counted.handler, c.handle_input.new.context)
    (Err c.in-Err.fault) c.requires.fine c.in-Err.ensures in
    taken.same_came

-- Proves the clause `counted` of `take_input` if the input ends with a fault. The lemma `input_taken` gives it.
pub returns-in-Err-clause-counted : goal.returns-in-Err-clause-counted
returns-in-Err-clause-counted g c =
    let taken =
    input_taken g.H.Held.effects (view_of g.S.Store.state) (λ k. (g.S.Store.state k.store).failures)
    g.F.Write.contents g.W.Write.contents _ _
    (c.args.taken.now.handler, c.args.writer.now) (c.handle_input.new.counted.handler, c.handle_input.new.context)
    (Err c.in-Err.fault) c.requires.fine c.in-Err.ensures in
    taken.counted
