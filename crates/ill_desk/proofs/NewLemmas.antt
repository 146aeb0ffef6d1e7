-- Derives the effect of the command `new` from the results of its calls.
use Rattle.std.proofs.Common.{rules, ◌≡◌, ◌⊎◌, ℕ, List, Option, Some, None, Result, Ok, Err, inl, inr, ◌∙◌}
use Rattle.ill_saved.specs.declared.fault.DeskFault.TheVariants.{Store}
use Rattle.ill_store.specs.declared.store.StoreFault.TheVariants.{Failed}
use Rattle.ill_store.specs.declared.store.NextCall.{NextCall}
use Rattle.ill_store.specs.Store.{Allows, plan_after_call}
use Rattle.ill_text.specs.declared.fault.ToolFault.{ToolFault}
use Rattle.ill_text.specs.declared.fault.ToolFault.TheVariants.{Desk, Write, OutOfMemory}
use Rattle.ill_desk.specs.New.{CommitsFirst, BeginsOver}

-- After one call has spent the plan `old`, a second call that leaves or spends it keeps it spent.
pub still_spent : (old between new : Option NextCall) → between ≡ plan_after_call old
    → (new ≡ between) ⊎ (new ≡ plan_after_call between)
    → new ≡ plan_after_call old
still_spent None between new e (inl is) = is ∙ e
still_spent None None new e (inr is) = is
still_spent None (Some plan) new e (inr is) = search rules
still_spent (Some plan) between new e (inl is) = is ∙ e
still_spent (Some plan) None new e (inr is) = search rules
still_spent (Some plan) (Some next) new e (inr is) = is

-- If `plan` allows the load, and the store has no record, a first save fulfils `BeginsOver`.
pub begun_over : (bytes : List ℕ) (plan : Option NextCall) (answer : Result (Unit {0}) ToolFault) (new : Option (List ℕ))
    → Allows {X = Unit {0}} plan (Ok tt)
    → CommitsFirst (plan_after_call plan) bytes answer None new → BeginsOver bytes plan None answer new
begun_over bytes plan (Ok done) new allows commits = (commits, allows)
begun_over bytes plan (Err Write) new allows commits = (commits, allows)
begun_over bytes None (Err (Desk (Store Failed))) new allows commits = commits
begun_over bytes (Some plan) (Err (Desk (Store Failed))) new allows commits = absurd commits.1
begun_over bytes plan (Err OutOfMemory) new allows commits = commits
begun_over bytes plan (Err other) new allows commits = absurd commits
