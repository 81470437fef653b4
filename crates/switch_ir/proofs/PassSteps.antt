-- The instructions of a pass, one after the other.
use Rattle.std.proofs.Common.{◌≡◌, ℕ, zero, suc, ◌+◌, ◌<◌, ◌≤◌, max, List, [], ◌∷◌, ◌++◌, length, map, take, get_or, refl, sym, ap, subst, ◌∙◌, arith, append_assoc}
use Rattle.std.specs.List.{AllByRecursion as Each}
use Rattle.std.proofs.lemmas.List.{append-nil, map-append, take_more, take_all}
use Rattle.flat_ir.specs.declared.program.ValueId.{ValueId}
use Rattle.flat_ir.specs.declared.spans.Span.{Span}
use Rattle.flat_ir.specs.Program.{operands}
use Rattle.split_model.specs.Crossing.{is_among}
use Rattle.split_model.specs.declared.layout.Crossing.{Crossing}
use Rattle.switch_ir.specs.declared.code.PassStep.{PassStep}
use Rattle.switch_ir.specs.declared.code.Table.{Table}
use Rattle.transfer_header.specs.BlockSteps.{step_if}
use Rattle.switch_ir.specs.LastReads.{noted, AreNoted, AreInside}
use Rattle.switch_ir.specs.Passes.{Step, pass_step_of}
use Rattle.switch_ir.specs.Spans.{Written, last_stage, results_in, results_of, written_by, handed_in, span_of}
use Rattle.switch_ir.proofs.ApartValues.{written_append}

pub steps_more : (items : List PassStep) (i : ℕ) (x : PassStep) → i < length items → x ≡ get_or items i x
    → map pass_step_of (take (i + 1) items) ≡ map pass_step_of (take i items) ++ pass_step_of x ∷ []
steps_more items i x lt is =
    ap (map pass_step_of) (take_more items i x lt) ∙ map-append pass_step_of (take i items) (get_or items i x ∷ [])
    ∙ ap (λ (y : PassStep). map pass_step_of (take i items) ++ pass_step_of y ∷ []) (sym is)

pub steps_all : (items steps : List PassStep) (i : ℕ) → length items ≤ i → items ≡ steps → map pass_step_of (take i items) ≡ map pass_step_of steps
steps_all items steps i past same = ap (map pass_step_of) (take_all i items past ∙ same)

pub last_more : (steps : List Step) (s : Step) (v : ValueId) → last_stage (steps ++ s ∷ []) v ≡ max (last_stage steps v) (step_if (is_among v (operands s.work)) s.stage)
last_more [] s v = omega arith
last_more (first ∷ steps) s v = omega (arith, last_more steps s v)

pub written_more : (tables : List Table) (items : List PassStep) (i : ℕ) (x : PassStep) → i < length items → x ≡ get_or items i x
    → written_by tables (map pass_step_of (take (i + 1) items)) ≡ written_by tables (map pass_step_of (take i items)) ++ results_of (pass_step_of x) (results_in tables (pass_step_of x).work)
written_more tables items i x lt is =
    ap (written_by tables) (steps_more items i x lt is) ∙ written_append tables (map pass_step_of (take i items)) (pass_step_of x ∷ [])
    ∙ ap (λ l. written_by tables (map pass_step_of (take i items)) ++ l) (append-nil (results_of (pass_step_of x) (results_in tables (pass_step_of x).work)))

pub handed_more : (items : List Crossing) (i : ℕ) (c : Crossing) → i < length items → c ≡ get_or items i c
    → handed_in (take (i + 1) items) ≡ handed_in (take i items) ++ record { value = c.value; number = c.number; stage = 0 } ∷ []
handed_more items i c lt is =
    ap handed_in (take_more items i c lt) ∙ map-append (λ (q : Crossing). record { value = q.value; number = q.number; stage = 0 }) (take i items) (get_or items i c ∷ [])
    ∙ ap (λ (q : Crossing). handed_in (take i items) ++ record { value = q.value; number = q.number; stage = 0 } ∷ []) (sym is)

-- ---- what holds of all values
pub each_parts : {X : Type 0} (P : X → Type 0) → (xs ys : List X) → Each P (xs ++ ys) → Each P xs × Each P ys
each_parts P [] ys h = (tt, h)
each_parts P (x ∷ xs) ys h = let rest = each_parts P xs ys h.1 in ((h.0, rest.0), rest.1)

pub steps_at : (P : Written → Type 0) (tables : List Table) (items : List PassStep) (i : ℕ) (x : PassStep) → i < length items → x ≡ get_or items i x → Each P (written_by tables (map pass_step_of items))
    → Each P (results_of (pass_step_of x) (results_in tables (pass_step_of x).work))
steps_at P tables [] i x lt is h = absurd (omega (arith, lt))
steps_at P tables (y ∷ ys) zero x lt is h =
    subst (λ (z : PassStep). Each P (results_of (pass_step_of z) (results_in tables (pass_step_of z).work))) (sym is)
    (each_parts P (results_of (pass_step_of y) (results_in tables (pass_step_of y).work)) (written_by tables (map pass_step_of ys)) h).0
steps_at P tables (y ∷ ys) (suc i) x lt is h =
    steps_at P tables ys i x (omega (arith, lt)) is (each_parts P (results_of (pass_step_of y) (results_in tables (pass_step_of y).work)) (written_by tables (map pass_step_of ys)) h).1

-- ---- spans that are put last
pub pushed : (start now new : List Span) (done more : List Written) (w : Written) (s : Span) (reads : ValueId → ℕ) → new ≡ now ++ s ∷ [] → s ≡ span_of reads w → now ≡ start ++ map (span_of reads) done → more ≡ done ++ w ∷ []
    → new ≡ start ++ map (span_of reads) more
pushed start now new done more w s reads put is so_far next =
    put ∙ ap (λ x. now ++ x ∷ []) is ∙ ap (λ l. l ++ span_of reads w ∷ []) so_far ∙ append_assoc start (map (span_of reads) done) (span_of reads w ∷ [])
    ∙ ap (λ l. start ++ l) (sym (map-append (span_of reads) done (w ∷ []))) ∙ ap (λ l. start ++ map (span_of reads) l) (sym next)

pub pushed_all : (start now new : List Span) (done more ws : List Written) (reads : ValueId → ℕ) → new ≡ now ++ map (span_of reads) ws → now ≡ start ++ map (span_of reads) done → more ≡ done ++ ws
    → new ≡ start ++ map (span_of reads) more
pushed_all start now new done more ws reads put so_far next =
    put ∙ ap (λ l. l ++ map (span_of reads) ws) so_far ∙ append_assoc start (map (span_of reads) done) (map (span_of reads) ws)
    ∙ ap (λ l. start ++ l) (sym (map-append (span_of reads) done ws)) ∙ ap (λ l. start ++ map (span_of reads) l) (sym next)

pub results_more : (s : Step) (r : ℕ) → results_of s (r + 1) ≡ results_of s r ++ record { value = record { instruction = s.instruction; result = r }; number = s.first + r; stage = s.stage } ∷ []
results_more s r = let e : r + 1 ≡ suc r = omega arith in ap (results_of s) e

-- ---- spans by what is noted
pub spans_same : (n : ℕ) (reads : ValueId → ℕ) (last : List ℕ) → AreNoted n reads last → (had : List Written) → AreInside n had → map (span_of (noted last)) had ≡ map (span_of reads) had
spans_same n reads last are [] inside = refl
spans_same n reads last are (w ∷ ws) inside = λ i. (
    record { value = w.number; from = w.stage; to = max w.stage (are.exact w.value inside.0.0 inside.0.1 i) } ∷ spans_same n reads last are ws inside.1 i
    )
