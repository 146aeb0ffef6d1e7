-- Proves that people may do nothing in a good night, and that each command of the responder's library may be theirs.
use Rattle.std.proofs.Common.{◌≡◌, List, [], ◌∷◌, ◌++◌, refl, sym, subst}
use Rattle.ill_record.specs.declared.role.Role.TheVariants as who
use Rattle.ill_runs.specs.Libraries.{Commands, Happens, IsHistory, Libraries, Library, libraries_after}
use Rattle.ill_nights.specs.Nights.{AreAtWork}

-- If `people` is a history from `now`, and a command leads on to `next`, both together are a history.
prolonged : (now : Libraries) (people : List Libraries) (next : Libraries) → IsHistory now people
    → Happens (libraries_after now people) next → IsHistory now (people ++ next ∷ [])
unfolding IsHistory libraries_after
prolonged now [] next is happens = (happens, tt)
prolonged now (first ∷ people) next is happens = (is.0, prolonged first people next is.1 happens)

-- A history whose last libraries are `next` leads from `now` to `next`.
ends_with : (now : Libraries) (people : List Libraries) (next : Libraries) → libraries_after now (people ++ next ∷ []) ≡ next
unfolding libraries_after
ends_with now [] next = refl
ends_with now (first ∷ people) next = ends_with first people next

-- People may do nothing: their work then leads from `libraries` to the same.
pub no_work : (libraries : Libraries) → AreAtWork libraries libraries
unfolding IsHistory libraries_after
no_work libraries = record { people = []; work = tt; met_then = refl; requester = refl }

-- If people's work leads from `asked` to `met`, any command of the responder's library may follow, to `after`.
pub further_work : (asked met : Libraries) (after : Library) → AreAtWork asked met
    → Commands met.requester.left met.responder after
    → AreAtWork asked (record { requester = met.requester; responder = after })
further_work asked met after work command =
    let next : Libraries = record { requester = met.requester; responder = after } in
    let happens : Happens met next = (who.Responder, command, refl) in
    record {
      people = work.people ++ next ∷ [];
      work = prolonged asked work.people next work.work
          (subst (λ (now : Libraries). Happens now next) (sym work.met_then) happens);
      met_then = ends_with asked work.people next;
      requester = work.requester;
    }
