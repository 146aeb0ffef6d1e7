-- Answers the contract of `settle_each` (`src/settle.rt`).
use Rattle.std.proofs.Common.{◌+◌, Err, Bool, subst, sym}
use Rattle.ill_text.specs.declared.fault.ToolFault.TheVariants.{OutOfMemory}
use Rattle.ill_room.specs.Room.{Answers, is_correct_room}
use Rattle.ill_room.proofs.RoomLemmas.{SettlesTo, one_settled, one_not_settled, stops_there}
use Rattle.ill_room.proofs.settle.settle_each.Goals as goal
use Rattle.ill_room.proofs.settle.settle_each.Goals.{in-Ok, in-Err}

-- Memory ran out at a message file. By `stops_there` this message file and those before it were settled, or stay.
pub returns-in-Err-OutOfMemory-clause-settles : goal.returns-in-Err-OutOfMemory-clause-settles
returns-in-Err-OutOfMemory-clause-settles g c =
    stops_there c.loop-number.number c.args.judged.verdicts.now (g.R.Room.state c.args.room.now)
    (g.R.Room.state c.loop-number.room) (g.R.Room.state c.settle_at.new.room) c.loop-number.all_done
    (Err c.in-Err-OutOfMemory.field-0)
    OutOfMemory c.loop-number.invariant.there c.in-Err-OutOfMemory.ensures.settles

-- If the call for the next message file is done, `one_settled` gives the invariant. Else `one_not_settled` does.
pub loop-number-preserved : goal.loop-number-preserved
loop-number-preserved g c =
    let all = c.args.judged.verdicts.now in
    let start = g.R.Room.state c.args.room.now in
    let before = g.R.Room.state c.loop-number.room in
    let after = g.R.Room.state c.settle_at.new.room in
    let far = c.loop-number.invariant.there in
    record {
      there = elim c.match-settle_at.branch [
        | in-Ok w ↦ subst (λ (done : Bool).
            Answers is_correct_room (SettlesTo (c.loop-number.number + 1) all) start done after)
            (sym w.all_done-is)
            (one_settled c.loop-number.number all start before after c.loop-number.all_done w.in-Ok.field-0 far
            w.in-Ok.ensures.settles)
        | in-Err w ↦ subst (λ (done : Bool).
            Answers is_correct_room (SettlesTo (c.loop-number.number + 1) all) start done after)
            (sym w.all_done-is)
            (one_not_settled c.loop-number.number all start before after c.loop-number.all_done
            (Err w.in-Err.field-0) far
            w.in-Err.ensures.settles)
      ];
    }
