-- The first limit that is exceeded, and counts that exceed none.
use Rattle.std.proofs.Common.{◌≡◌, ℕ, suc, ◌≤◌, Bool, true, false, List, [], ◌∷◌, ◌++◌, Option, Some, None, inl, inr, refl, arith}
use Rattle.std.specs.Prelude.{find, cond, All}
use Rattle.std.specs.Option.{option_or}
use Rattle.std.proofs.lemmas.List.Elements.{All-nil, All-cons, All-head, All-tail, All-append}
use Rattle.std.proofs.lemmas.List.Folds.{find-append}
use Rattle.std.proofs.lemmas.Bool.{cases_Bool}
use Rattle.std.proofs.lemmas.Bool.Decides.{nat_tests}
use Rattle.resource_limits.specs.declared.limits.Limits.{Limits}
use Rattle.resource_limits.specs.declared.counting.Counts.{Counts}
use Rattle.resource_limits.specs.declared.exceeding.Over.{Over}
use Rattle.resource_limits.specs.declared.exceeding.LimitName.{LimitName}
use Rattle.resource_limits.specs.declared.exceeding.LimitName.TheVariants.{Accesses, Stages, TableBits, Writeback, TransferBytes}
use Rattle.resource_limits.specs.Kept.{exceeds, first_excess, of_all, of_objects, all_limits, Keeps}

in_turn : (x y z : Option Over) (p q : Bool) (a b : Over)
    → option_or (option_or (option_or (option_or x (cond p (Some a) None)) (cond q (Some b) None)) y) z
    ≡ option_or x (cond p (Some a) (cond q (Some b) (option_or y z)))
in_turn (Some over) y z p q a b = refl
in_turn None y z true q a b = refl
in_turn None y z false true a b = refl
in_turn None y z false false a b = refl

-- looking in five lists in turn is looking in all of them
pub found_in_turn : (xs ys : List Over) (a b c : Over)
    → option_or (option_or (option_or (option_or (find exceeds xs) (find exceeds (a ∷ []))) (find exceeds (b ∷ []))) (find exceeds ys)) (find exceeds (c ∷ []))
    ≡ find exceeds (xs ++ a ∷ b ∷ (ys ++ c ∷ []))
found_in_turn xs ys a b c =
    rw (find-append exceeds xs (a ∷ b ∷ (ys ++ c ∷ [])), find-append exceeds ys (c ∷ []))
    (in_turn (find exceeds xs) (find exceeds ys) (find exceeds (c ∷ [])) (exceeds a) (exceeds b) a b)

-- a count is at most its limit
abbrev IsKept : Over → Type 0
IsKept over = over.have ≤ over.allowed

kept_if : (over : Over) → exceeds over ≡ false → IsKept over
kept_if over h = grind (arith, nat_tests)

not_over : (over : Over) → IsKept over → exceeds over ≡ false
not_over over h = grind (arith, nat_tests)

all_kept : (xs : List Over) → find exceeds xs ≡ None → All IsKept xs
all_kept [] h = All-nil IsKept
all_kept (x ∷ xs) h = elim (cases_Bool (exceeds x)) [
  | inl t ↦ (let k : Some x ≡ None = (rw t at h) in cc)
  | inr t ↦ All-cons IsKept x xs (kept_if x t) (all_kept xs (rw t at h))
]

none_over : (xs : List Over) → All IsKept xs → find exceeds xs ≡ None
none_over [] h = refl
none_over (x ∷ xs) h = rw (not_over x (All-head IsKept x xs h)) (none_over xs (All-tail IsKept x xs h))

objects_kept : (limit : LimitName) (allowed o : ℕ) (haves : List ℕ) → All (λ n. n ≤ allowed) haves
    → All IsKept (of_objects limit allowed o haves)
objects_kept limit allowed o [] h = All-nil IsKept
objects_kept limit allowed o (have ∷ haves) h =
    let P : ℕ → Type 0 = λ n. n ≤ allowed in
    let over : Over = record { limit = limit; object = Some o; have = have; allowed = allowed } in
    All-cons IsKept over (of_objects limit allowed (suc o) haves) (All-head P have haves h) (objects_kept limit allowed (suc o) haves (All-tail P have haves h))

kept_objects : (limit : LimitName) (allowed o : ℕ) (haves : List ℕ) → All IsKept (of_objects limit allowed o haves)
    → All (λ n. n ≤ allowed) haves
kept_objects limit allowed o [] h = All-nil (λ n. n ≤ allowed)
kept_objects limit allowed o (have ∷ haves) h =
    let over : Over = record { limit = limit; object = Some o; have = have; allowed = allowed } in
    let rest = of_objects limit allowed (suc o) haves in
    All-cons (λ n. n ≤ allowed) have haves (All-head IsKept over rest h)
    (kept_objects limit allowed (suc o) haves (All-tail IsKept over rest h))

all_left : (xs ys : List Over) → All IsKept (xs ++ ys) → All IsKept xs
all_left [] ys h = All-nil IsKept
all_left (x ∷ xs) ys h = All-cons IsKept x xs (All-head IsKept x (xs ++ ys) h) (all_left xs ys (All-tail IsKept x (xs ++ ys) h))

all_right : (xs ys : List Over) → All IsKept (xs ++ ys) → All IsKept ys
all_right [] ys h = h
all_right (x ∷ xs) ys h = all_right xs ys (All-tail IsKept x (xs ++ ys) h)

-- none is found exactly where all are kept
pub keeps_if_none : (c : Counts) (l : Limits) → first_excess c l ≡ None → Keeps c l
keeps_if_none c l h =
    let objects = of_objects Accesses 1 0 c.accesses in
    let stages = of_all Stages l.stages c.stages in
    let bits = of_all TableBits l.table_bits c.table_bits in
    let writes = of_objects Writeback l.writeback 0 c.writes in
    let bytes = of_all TransferBytes l.transfer_bytes c.transfer_bytes in
    let all : All IsKept (objects ++ stages ∷ bits ∷ (writes ++ bytes ∷ [])) = all_kept (all_limits c l) h in
    let split = all_right objects (stages ∷ bits ∷ (writes ++ bytes ∷ [])) all in
    let later = All-tail IsKept stages (bits ∷ (writes ++ bytes ∷ [])) split in
    let last = All-tail IsKept bits (writes ++ bytes ∷ []) later in
    record {
      accesses = kept_objects Accesses 1 0 c.accesses (all_left objects (stages ∷ bits ∷ (writes ++ bytes ∷ [])) all);
      stages = All-head IsKept stages (bits ∷ (writes ++ bytes ∷ [])) split;
      table_bits = All-head IsKept bits (writes ++ bytes ∷ []) later;
      writeback = kept_objects Writeback l.writeback 0 c.writes (all_left writes (bytes ∷ []) last);
      transfer_bytes = All-head IsKept bytes [] (all_right writes (bytes ∷ []) last);
    }

pub none_if_keeps : (c : Counts) (l : Limits) → Keeps c l → first_excess c l ≡ None
none_if_keeps c l h =
    let objects = of_objects Accesses 1 0 c.accesses in
    let stages = of_all Stages l.stages c.stages in
    let bits = of_all TableBits l.table_bits c.table_bits in
    let writes = of_objects Writeback l.writeback 0 c.writes in
    let bytes = of_all TransferBytes l.transfer_bytes c.transfer_bytes in
    none_over (all_limits c l)
    (All-append IsKept objects (stages ∷ bits ∷ (writes ++ bytes ∷ [])) (objects_kept Accesses 1 0 c.accesses h.accesses)
    (All-cons IsKept stages (bits ∷ (writes ++ bytes ∷ [])) h.stages
    (All-cons IsKept bits (writes ++ bytes ∷ []) h.table_bits
    (All-append IsKept writes (bytes ∷ []) (objects_kept Writeback l.writeback 0 c.writes h.writeback)
    (All-cons IsKept bytes [] h.transfer_bytes (All-nil IsKept))))))
