-- Tests over numbers and lists, and what two stores have to agree on.
use Rattle.std.proofs.Common.{◌≡◌, ℕ, zero, suc, ◌<◌, ◌==◌, ◌%◌, ◌^◌, if◌then◌else◌, Bool, true, false, not, ◌&&◌, ◌||◌, List, [], ◌∷◌, length, nat_lt, None, refl, sym, ap, ◌∙◌, arith, ⊎_elim}
use Rattle.std.proofs.lemmas.Bool.{false≢true, true≢false, or_left, or_right, or_parts, and_parts, ltb-true}
use Rattle.std.proofs.Math.Nat.{eq-or-lt_of_le}
use Rattle.std.specs.List.{AllByRecursion as Each, list_any}
use Rattle.packet_fields.specs.declared.packet.Packet.{Packet}
use Rattle.packet_fields.specs.declared.verdict.Verdict.TheVariants.{Drop, Send}
use Rattle.state_store.specs.Store.{Store, object_at}
use Rattle.flat_ir.specs.declared.program.ValueId.{ValueId}
use Rattle.flat_ir.specs.declared.program.FieldValue.{FieldValue}
use Rattle.flat_ir.specs.Program.{Program, Work, step_at, is_named, result_count}
use Rattle.flat_ir.specs.Program.Work.{const, field, look, put, del}
use Rattle.flat_ir.specs.Blocks.{Reading, block_at}
use Rattle.flat_ir.specs.Run.{made, change_of, results, with_writes}
use Rattle.packet_fields.specs.Fields.{with_field}
use Rattle.flat_ir.specs.WellFormed.{EachCondition}
use Rattle.flat_ir.specs.Laws.{Same}
use Rattle.split_model.specs.Split.{any_below}
use Rattle.flat_ir.specs.Kinds.{can_switch, is_write, is_input}
use Rattle.flat_ir.specs.Guards.{is_condition}
use Rattle.split_model.specs.Crossing.{is_value, is_among}
use Rattle.flat_ir.proofs.Exact.{same_itself}
use Rattle.lemmas.proofs.Lists.{each_weaker}

pub none_below : (n : ℕ) (test : ℕ → Bool) (i : ℕ) → any_below n test ≡ false → i < n → test i ≡ false
none_below zero test i none lt = absurd (omega (arith, lt))
none_below (suc n) test i none lt =
    let parts = or_parts (any_below n test) (test n) none in
    ⊎_elim
    (λ same. ap test same ∙ parts.1)
    (λ less. none_below n test i parts.0 (omega (arith, less)))
    (eq-or-lt_of_le {n = i} {m = n} (omega (arith, lt)))

pub any_same : (n : ℕ) (t t' : ℕ → Bool) → ((i : ℕ) → i < n → t i ≡ t' i) → any_below n t ≡ any_below n t'
any_same zero t t' h = refl
any_same (suc n) t t' h = ap (λ b. b || t n) (any_same n t t' (λ i lt. h i (omega (arith, lt)))) ∙ ap (λ b. any_below n t' || b) (h n (omega arith))

-- what holds where nothing outside is live
pub inside : (p l : Bool) → (not p && l) ≡ false → l ≡ true → p ≡ true
inside true l e live = refl
inside false l e live = absurd (false≢true (sym e ∙ live))

pub named_within : (f : Program) (v : ValueId) → is_named f v ≡ true → v.instruction < length f.code
named_within f v e =
    ltb-true v.instruction (length f.code) (and_parts (nat_lt v.instruction (length f.code)) (nat_lt v.result (result_count f.objects (step_at f v.instruction).work)) e).0

pub each_among : (vs : List ValueId) → Each (λ v. is_among v vs ≡ true) vs
each_among [] = tt
each_among (w ∷ vs) =
    (or_left (is_value w w) (is_among w vs) (same_itself w), each_weaker (λ v. is_among v vs ≡ true) (λ v. is_among v (w ∷ vs) ≡ true) (λ v h. or_right (is_value v w) (is_among v vs) h) vs (each_among vs))

condition_more : (f : Program) (k : ℕ) (ks : List ℕ) (j : ℕ) → EachCondition f (λ c. list_any (is_condition f c) ks ≡ true) j → EachCondition f (λ c. list_any (is_condition f c) (k ∷ ks) ≡ true) j
condition_more f k ks zero h = tt
condition_more f k ks (suc j) h = let c = (block_at f.blocks j).cond in or_right (is_condition f c k) (list_any (is_condition f c) ks) h

condition_own : (f : Program) (k : ℕ) (ks : List ℕ) → EachCondition f (λ c. list_any (is_condition f c) (k ∷ ks) ≡ true) k
condition_own f zero ks = tt
condition_own f (suc k) ks = let c = (block_at f.blocks k).cond in or_left (is_value c c) (list_any (is_condition f c) ks) (same_itself c)

-- each condition of these blocks is the condition of one of them
pub each_condition : (f : Program) (ks : List ℕ) → Each (EachCondition f (λ c. list_any (is_condition f c) ks ≡ true)) ks
each_condition f [] = tt
each_condition f (k ∷ ks) =
    (condition_own f k ks, each_weaker (EachCondition f (λ c. list_any (is_condition f c) ks ≡ true)) (EachCondition f (λ c. list_any (is_condition f c) (k ∷ ks) ≡ true)) (condition_more f k ks) ks (each_condition f ks))

pub conditions_both : (f : Program) (P Q : ValueId → Type 0) → (k : ℕ) → EachCondition f P k → EachCondition f Q k → EachCondition f (λ c. P c × Q c) k
conditions_both f P Q zero p q = tt
conditions_both f P Q (suc k) p q = (p, q)

-- ## What an instruction sees of a store

abbrev pub SameSight : Store → Store → Work → Type 0
SameSight st st' (look object keys) = object_at st object ≡ object_at st' object
SameSight st st' _ = Unit {0}

-- what the switch can do hangs on no block, and on the object that it looks at
pub seen_same : (r : Reading) (live live' : Bool) (st st' : Store) (packet : Packet) (work : Work) → can_switch work ≡ true → SameSight st st' work → results r live st packet work ≡ results r live' st' packet work
seen_same r live live' st st' packet (look object keys) can h = rw h
seen_same r live live' st st' packet (put object keys values) can h = absurd (false≢true can)
seen_same r live live' st st' packet (del object keys) can h = absurd (false≢true can)
seen_same r live live' st st' packet _ can h = refl

-- a const or a field hangs on the packet alone
pub input_same : (r r' : Reading) (live live' : Bool) (st st' : Store) (packet : Packet) (work : Work) → is_input work ≡ true → results r live st packet work ≡ results r' live' st' packet work
input_same r r' live live' st st' packet (const width number) can = refl
input_same r r' live live' st st' packet (field name) can = refl
input_same r r' live live' st st' packet _ can = absurd (false≢true can)

pub none_made : (live : Bool) → made live None ≡ []
none_made true = refl
none_made false = refl

-- what isn't a write changes nothing
pub no_change : (r : Reading) (live : Bool) (st : Store) (work : Work) → is_write work ≡ false → made live (change_of r st work) ≡ []
no_change r live st (put object keys values) e = absurd (true≢false e)
no_change r live st (del object keys) e = absurd (true≢false e)
no_change r live st _ e = none_made live

-- only a write hangs on whether it is live
pub live_counts : (r : Reading) (live live' : Bool) (st : Store) (packet : Packet) (work : Work) → (is_write work ≡ true → live ≡ live') → results r live st packet work ≡ results r live' st packet work
live_counts r live live' st packet (put object keys values) e = ap (λ l. results r l st packet (put object keys values)) (e refl)
live_counts r live live' st packet (del object keys) e = ap (λ l. results r l st packet (del object keys)) (e refl)
live_counts r live live' st packet _ e = refl

pub writes_same : (r r' : Reading) (ws : List FieldValue) (bytes : List ℕ) → Each (λ (w : FieldValue). Same r r' w.value) ws → with_writes ws r bytes ≡ with_writes ws r' bytes
writes_same r r' [] bytes h = refl
writes_same r r' (w ∷ ws) bytes h =
    ap (λ n. with_writes ws r (with_field bytes w.field n)) h.0 ∙ writes_same r r' ws (with_field bytes w.field (r' w.value)) h.1

-- verdicts of the same numbers and bytes
pub sent_same : {send send' port port' : ℕ} {bytes bytes' : List ℕ} → send ≡ send' → port ≡ port' → bytes ≡ bytes'
    → (if send == 0 then Drop else Send (port % 2 ^ 8) bytes) ≡ (if send' == 0 then Drop else Send (port' % 2 ^ 8) bytes')
sent_same a b c = λ i. if a i == 0 then Drop else Send (b i % 2 ^ 8) (c i)
