-- Where the counts agree, the numbers of the order are those of packets of the trace.
use Rattle.std.proofs.Common.{◌≡◌, ◌<◌, ◌≤◌, ℕ, zero, suc, List, [], ◌∷◌, length, get_or, Option, Some, None, ◌∙◌, ap, arith}
use Rattle.std.specs.Prelude.{slice_get, All, MatchOption}
use Rattle.std.proofs.lemmas.Option.{slice_get-get_or}
use Rattle.packet_fields.specs.declared.packet.Packet.{Packet}
use Rattle.run_model.specs.declared.fate.Fate.{Fate}
use Rattle.run_model.specs.declared.run.Run.{Run}
use Rattle.run_model.specs.Serialises.{decided_at, times}
use Rattle.run_audit.specs.Counts.{CountsAgree}
use Rattle.run_audit.specs.Order.{InOrder, IsMisplaced}
use Rattle.run_audit.proofs.Places.{once_in_order}
use Rattle.run_audit.proofs.OneOrder.{placed_decided}

decided_within : (fates : List Fate) (p : ℕ) (x : ℕ × ℕ) → decided_at (slice_get fates p) ≡ Some x → p < length fates
decided_within [] p x h = cc
decided_within (f ∷ fs) zero x h = omega arith
decided_within (f ∷ fs) (suc p) x h = let rest = decided_within fs p x h in omega arith

pub within_trace : (packets : List Packet) (run : Run) → CountsAgree packets run → InOrder run
    → All (λ n. n < length packets) run.order
within_trace packets run counts order = λ k d low.
    let p : ℕ = get_or run.order k d in
    let here : slice_get run.order k ≡ Some p = slice_get-get_or run.order k d low in
    let found = placed_decided run.fates run.order (λ q. ap (times q) order ∙ once_in_order run.fates q) k p here in
    let few : p < length run.fates = decided_within run.fates p (found.0) found.1 in
    let admitted : length run.fates ≤ length packets = counts.admitted in
    omega arith

pub in_order_from : (run : Run) (found : Option ℕ) → MatchOption found (InOrder run) (λ p. IsMisplaced run p)
    → found ≡ None → InOrder run
in_order_from run None h is = h
in_order_from run (Some p) h is = cc
