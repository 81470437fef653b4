-- What depends on which numbers are read.
use Rattle.std.proofs.Common.{◌≡◌, ℕ, zero, suc, Bool, true, false, ◌&&◌, List, [], ◌∷◌, ◌++◌, map, length, refl, ap, ◌∙◌, slice_index}
use Rattle.std.specs.List.{AllByRecursion as Each, list_all}
use Rattle.gal_bits.specs.Operators.{value_of as operator_value}
use Rattle.gal_bits.specs.declared.op.Op.TheVariants.{Select}
use Rattle.packet_fields.specs.declared.packet.Packet.{Packet}
use Rattle.state_store.specs.Store.{Store}
use Rattle.flat_ir.specs.declared.program.ValueId.{ValueId}
use Rattle.flat_ir.specs.declared.program.Block.{Block}
use Rattle.flat_ir.specs.Program.{Program, Work, operands}
use Rattle.flat_ir.specs.Program.Work.{const, field, apply, shift, select, byte, look, put, del}
use Rattle.flat_ir.specs.Blocks.{Reading, is_on, same, line, holds, is_live, block_at}
use Rattle.flat_ir.specs.Run.{change_of, made, results}
use Rattle.flat_ir.specs.WellFormed.{EachCondition}
use Rattle.flat_ir.specs.Laws.{Same, SameFor}

pub each_first : {X : Type 0} (P : X → Type 0) → (xs ys : List X) → Each P (xs ++ ys) → Each P xs
each_first P [] ys h = tt
each_first P (x ∷ xs) ys h = (h.0, each_first P xs ys h.1)

pub each_second : {X : Type 0} (P : X → Type 0) → (xs ys : List X) → Each P (xs ++ ys) → Each P ys
each_second P [] ys h = h
each_second P (x ∷ xs) ys h = each_second P xs ys h.1

pub map_same : (r r' : Reading) (vs : List ValueId) → Each (Same r r') vs → map r vs ≡ map r' vs
map_same r r' [] h = refl
map_same r r' (v ∷ vs) h = ap (λ n. n ∷ map r vs) h.0 ∙ ap (λ ns. r' v ∷ ns) (map_same r r' vs h.1)

-- the side of a select that isn't taken plays no part
sides : (t : Bool) (w c a a' b b' : ℕ) → is_on c ≡ t → (t ≡ true → a ≡ a') → (t ≡ false → b ≡ b') → operator_value Select w (c ∷ a ∷ b ∷ []) ≡ operator_value Select w (c ∷ a' ∷ b' ∷ [])
unfolding operator_value
sides true w c a a' b b' e first second = rw (e, first refl)
sides false w c a a' b b' e first second = rw (e, second refl)

pub select_same : (w c c' a a' b b' : ℕ) → c ≡ c' → (is_on c ≡ true → a ≡ a') → (is_on c ≡ false → b ≡ b') → operator_value Select w (c ∷ a ∷ b ∷ []) ≡ operator_value Select w (c' ∷ a' ∷ b' ∷ [])
select_same w c c' a a' b b' same first second =
    ap (λ n. operator_value Select w (n ∷ a ∷ b ∷ [])) same ∙ sides (is_on c') w c' a a' b b' refl (λ e. first (ap is_on same ∙ e)) (λ e. second (ap is_on same ∙ e))

-- ## Instructions

pub same_for_operands : (r r' : Reading) (work : Work) → Each (Same r r') (operands work) → SameFor r r' work
same_for_operands r r' (const width number) h = tt
same_for_operands r r' (field name) h = tt
same_for_operands r r' (shift op width arg by) h = h.0
same_for_operands r r' (select width cond first second) h = (h.0, λ e. h.1.0, λ e. h.1.1.0)
same_for_operands r r' (byte index) h = h.0
same_for_operands r r' (put object keys values) h = (each_first (Same r r') keys values h, each_second (Same r r') keys values h)
same_for_operands r r' _ h = h

pub change_same : (r r' : Reading) (st : Store) (work : Work) → SameFor r r' work → change_of r st work ≡ change_of r' st work
change_same r r' st (put object keys values) h = rw (map_same r r' keys h.0, map_same r r' values h.1)
change_same r r' st (del object keys) h = rw (map_same r r' keys h)
change_same r r' st _ h = refl

-- the same results from the same numbers
pub results_same : (r r' : Reading) (live : Bool) (st : Store) (packet : Packet) (work : Work) → SameFor r r' work → results r live st packet work ≡ results r' live st packet work
results_same r r' live st packet (apply op width args) h = ap (λ ns. operator_value op width ns ∷ []) (map_same r r' args h)
results_same r r' live st packet (shift op width arg by) h = ap (λ n. operator_value op width (n ∷ by ∷ []) ∷ []) h
results_same r r' live st packet (select width cond first second) h =
    ap (λ n. n ∷ []) (select_same width (r cond) (r' cond) (r first) (r' first) (r second) (r' second) h.0 h.1 h.2)
results_same r r' live st packet (byte index) h = ap (λ n. slice_index packet.bytes n ∷ []) h
results_same r r' live st packet (look object keys) h = rw (map_same r r' keys h)
results_same r r' live st packet (put object keys values) h =
    ap (λ change. length (made live change) ∷ []) (change_same r r' st (put object keys values) h)
results_same r r' live st packet (del object keys) h =
    ap (λ change. length (made live change) ∷ []) (change_same r r' st (del object keys) h)
results_same r r' live st packet _ h = refl

-- ## Blocks

pub holds_same : (blocks : List Block) (r r' : Reading) (k : ℕ) (f : Program) → f.blocks ≡ blocks → EachCondition f (Same r r') k → holds f.blocks r k ≡ holds f.blocks r' k
holds_same blocks r r' zero f e h = refl
holds_same blocks r r' (suc k) f e h = ap (λ n. same (block_at f.blocks k).polarity (is_on n)) h

pub condition_weaker : (f : Program) (P Q : ValueId → Type 0) → ((v : ValueId) → P v → Q v) → (k : ℕ) → EachCondition f P k → EachCondition f Q k
condition_weaker f P Q go zero h = tt
condition_weaker f P Q go (suc k) h = go (block_at f.blocks k).cond h

pub condition_all : (f : Program) (P : ValueId → Type 0) → ((v : ValueId) → P v) → (k : ℕ) → EachCondition f P k
condition_all f P go zero = tt
condition_all f P go (suc k) = go (block_at f.blocks k).cond

pub all_same : (f : Program) (r r' : Reading) (ks : List ℕ) → Each (EachCondition f (Same r r')) ks → list_all (holds f.blocks r) ks ≡ list_all (holds f.blocks r') ks
all_same f r r' [] h = refl
all_same f r r' (k ∷ ks) h =
    ap (λ b. b && list_all (holds f.blocks r) ks) (holds_same f.blocks r r' k f refl h.0) ∙ ap (λ b. holds f.blocks r' k && b) (all_same f r r' ks h.1)

-- a block is live by both where they agree on its conditions
pub live_same : (f : Program) (r r' : Reading) (k : ℕ) → Each (EachCondition f (Same r r')) (line f.blocks k) → is_live f.blocks r k ≡ is_live f.blocks r' k
live_same f r r' k h = all_same f r r' (line f.blocks k) h
