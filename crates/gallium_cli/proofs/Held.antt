-- Why a text is refused for what it holds: then it spells nothing, and it has one cause and one status.
use Rattle.std.proofs.Common.{◌≡◌, ◌<◌, ◌≤◌, ◌⊎◌, ℕ, List, length, refl, sym, ap, ◌∙◌, inl, inr, arith}
use Rattle.gallium_cli.specs.declared.status.Status.{Status}
use Rattle.gallium_cli.specs.declared.status.Status.TheVariants as statuses
use Rattle.gallium_cli.specs.declared.refusal.Refusal.{Refusal}
use Rattle.gallium_cli.specs.declared.refusal.Refusal.TheVariants.{Source, LongProgram, Limits, Exceeded, Split, Trace, Schedule, Pcap, Report, Audit, Chain}
use Rattle.gallium_cli.specs.Lines.{status_of}
use Rattle.gallium_cli.specs.Roles.{Role, source, program, limits, legal_split, true_report, wiring, trace, schedule, capture, link_schedule, size_of}
use Rattle.gallium_cli.specs.Roles.{IsSpelled}
use Rattle.gallium_cli.specs.Loads.{IsCauseOf, IsSoleCause}
use Rattle.gallium_cli.specs.Promises.{IsRefusedAs, IsStatusOf}
use Rattle.gallium_cli.proofs.Unkept.{cause_split, one_unkept, untaken}
use Rattle.gallium_cli.proofs.Untrue.{cause_report}

-- ## One cause

-- a text that is refused spells nothing
pub unspelled : (cause : Refusal) (role : Role) (text : List ℕ) → IsCauseOf cause role text → IsSpelled role text → ⊥
unspelled (Source fault) source text why spelled = why.1 spelled
unspelled (Source fault) program text why spelled = why.1 (spelled.0, spelled.1)
unspelled LongProgram program text why spelled = why.1 spelled
unspelled (Limits fault) limits text why spelled = let none = spelled.1.1 in let some = why in cc
unspelled (Split fault) (legal_split f allowed) text why spelled = untaken (Split fault) f allowed text why.0 why.1 spelled
unspelled (Exceeded excess) (legal_split f allowed) text why spelled =
    untaken (Exceeded excess) f allowed text why.0 why.1 spelled
unspelled (Trace fault) trace text why spelled = let ok = spelled.1 in let err = why in cc
unspelled (Schedule fault) schedule text why spelled = let ok = spelled.1 in let err = why in cc
unspelled (Schedule fault) link_schedule text why spelled = let ok = spelled.1 in let err = why in cc
unspelled (Pcap fault) capture text why spelled = why.1 spelled
unspelled (Report number) (true_report m packets) text why spelled = why.0 spelled
unspelled (Audit untruth) (true_report m packets) text why spelled = why.0 spelled
unspelled (Chain fault) wiring text why spelled = why.1 spelled
unspelled _ role text why spelled = why

-- and what is found is the one cause
pub one_cause : (found : Refusal) (role : Role) (cause : Refusal) (text : List ℕ) → IsSoleCause found role text
    → IsCauseOf cause role text → cause ≡ found
one_cause (Source found) source (Source fault) text held why = ap Source (held.1 fault why.0 why.2)
one_cause (Source found) program (Source fault) text held why = ap Source (held.1 fault why.0 why.2)
one_cause (Source found) program LongProgram text held why = absurd (held.0.1 why.0)
one_cause LongProgram program (Source fault) text held why = absurd (why.1 held.0.0)
one_cause LongProgram program LongProgram text held why = refl
one_cause (Limits found) limits (Limits fault) text held why =
    let one = why in let other = held.0 in let same : fault ≡ found = cc in ap Limits same
one_cause (Split found) (legal_split f allowed) (Split fault) text held why =
    one_unkept (Split fault) (Split found) f allowed text why.0 why.1 held.0.1
one_cause (Split found) (legal_split f allowed) (Exceeded excess) text held why =
    one_unkept (Exceeded excess) (Split found) f allowed text why.0 why.1 held.0.1
one_cause (Exceeded found) (legal_split f allowed) (Split fault) text held why =
    one_unkept (Split fault) (Exceeded found) f allowed text why.0 why.1 held.0.1
one_cause (Exceeded found) (legal_split f allowed) (Exceeded excess) text held why =
    one_unkept (Exceeded excess) (Exceeded found) f allowed text why.0 why.1 held.0.1
one_cause (Trace found) trace (Trace fault) text held why =
    let one = why in let other = held.0 in let same : fault ≡ found = cc in ap Trace same
one_cause (Schedule found) schedule (Schedule fault) text held why =
    let one = why in let other = held.0 in let same : fault ≡ found = cc in ap Schedule same
one_cause (Schedule found) link_schedule (Schedule fault) text held why =
    let one = why in let other = held.0 in let same : fault ≡ found = cc in ap Schedule same
one_cause (Pcap found) capture (Pcap fault) text held why = ap Pcap (held.1 fault why.0 why.2)
one_cause (Report found) (true_report m packets) (Report number) text held why = held.1 (Report number) why.1
one_cause (Report found) (true_report m packets) (Audit untruth) text held why = held.1 (Audit untruth) why.1
one_cause (Audit found) (true_report m packets) (Report number) text held why = held.1 (Report number) why.1
one_cause (Audit found) (true_report m packets) (Audit untruth) text held why = held.1 (Audit untruth) why.1
one_cause (Chain found) wiring (Chain fault) text held why = ap Chain (held.1 fault why.0 why.2)
one_cause _ role _ text held why = let none = held.0 in grind arith

-- ## One status

-- its status is that of its cause
pub cause_status : (cause : Refusal) (role : Role) (text : List ℕ) → IsCauseOf cause role text
    → IsStatusOf (status_of cause) role text
cause_status (Split fault) (legal_split f allowed) text why = cause_split (Split fault) f allowed text why.0 why.1
cause_status (Exceeded excess) (legal_split f allowed) text why = cause_split (Exceeded excess) f allowed text why.0 why.1
cause_status (Report number) (true_report m packets) text why = cause_report (Report number) m packets text why.1
cause_status (Audit untruth) (true_report m packets) text why = cause_report (Audit untruth) m packets text why.1
cause_status (Source fault) source text why = refl
cause_status (Source fault) program text why = refl
cause_status LongProgram program text why = refl
cause_status (Limits fault) limits text why = refl
cause_status (Trace fault) trace text why = refl
cause_status (Schedule fault) schedule text why = refl
cause_status (Schedule fault) link_schedule text why = refl
cause_status (Pcap fault) capture text why = refl
cause_status (Chain fault) wiring text why = refl
cause_status _ role text why = absurd why

-- a status goes by what is so or isn't
by_case : (P : Type 0) (a b status other : Status) → ((status ≡ a) × ¬ P) ⊎ ((status ≡ b) × P)
    → ((other ≡ a) × ¬ P) ⊎ ((other ≡ b) × P) → other ≡ status
by_case P a b status other (inl one) (inl two) = two.0 ∙ sym one.0
by_case P a b status other (inl one) (inr two) = absurd (one.1 two.1)
by_case P a b status other (inr one) (inl two) = absurd (two.1 one.1)
by_case P a b status other (inr one) (inr two) = two.0 ∙ sym one.0

one_status : (role : Role) (text : List ℕ) (status other : Status) → IsStatusOf status role text
    → IsStatusOf other role text → other ≡ status
one_status (legal_split f allowed) text status other one two = by_case _ _ _ status other one two
one_status (true_report m packets) text status other one two = by_case _ _ _ status other one two
one_status _ text status other one two = two ∙ sym one

-- a text that is refused for its size isn't refused for what it holds, and the other way round
pub long_status : (role : Role) (status : Status) (text : List ℕ) → IsRefusedAs role status text
    → size_of role < length text → statuses.TooLong ≡ status
long_status role status text (inl here) long = sym here.0
long_status role status text (inr bad) long = let short = bad.1.0 in absurd (omega arith)

pub held_status : (refusal : Refusal) (role : Role) (status : Status) (text : List ℕ) → IsRefusedAs role status text
    → length text ≤ size_of role → IsCauseOf refusal role text → status_of refusal ≡ status
held_status refusal role status text (inl long) short why = let above = long.1 in absurd (omega arith)
held_status refusal role status text (inr here) short why =
    one_status role text status (status_of refusal) here.0 (cause_status refusal role text why)
