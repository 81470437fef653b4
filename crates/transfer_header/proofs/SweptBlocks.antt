-- The greatest step of the blocks that pass a test.
use Rattle.std.proofs.Common.{◌≡◌, ◌≢◌, ℕ, zero, suc, ◌-◌, ◌<◌, ◌≤◌, Bool, true, false, ◌||◌, cond, List, ◌∷◌, max, length, get_or, set, replicate, refl, sym, ap, ◌∙◌, inl, inr, arith}
use Rattle.std.specs.Prelude.{nat_le}
use Rattle.std.specs.List.{list_any}
use Rattle.std.proofs.lemmas.Bool.{cases_lt, cases_eq, le-leb, lt-leb}
use Rattle.std.proofs.lemmas.List.{get_or-set_same, get_or-set_other, get_or_default, length-set}
use Rattle.flat_ir.specs.declared.program.Block.{Block}
use Rattle.flat_ir.specs.Blocks.{block_at, line, HasLowParents}
use Rattle.transfer_header.specs.BlockSteps.{greatest, greatest_below, step_if}
use Rattle.lemmas.proofs.Tests.{or_false}

if_zero : (b : Bool) → step_if b 0 ≡ 0
if_zero true = refl
if_zero false = refl

all_zero : (m n : ℕ) → get_or {A = ℕ} (replicate m 0) n 0 ≡ 0
all_zero zero n = refl
all_zero (suc m) zero = refl
all_zero (suc m) (suc n) = all_zero m n

pub none : (test : ℕ → Bool) (m n : ℕ) → greatest_below n test (replicate m 0) ≡ 0
none test m zero = refl
none test m (suc n) = omega (arith, none test m n, ap (step_if (test n)) (all_zero m n), if_zero (test n))

-- tests that say the same of each block
pub agree : (p q : ℕ → Bool) (steps : List ℕ) (n : ℕ) → ((b : ℕ) → b < n → p b ≡ q b) → greatest_below n p steps ≡ greatest_below n q steps
agree p q steps zero same = refl
agree p q steps (suc n) same =
    (λ i. max (agree p q steps n (λ b lt. same b (omega (arith, lt))) i) (step_if (same n (omega arith) i) (get_or steps n 0)))

-- steps that are the same
alike : (test : ℕ → Bool) (xs ys : List ℕ) (n : ℕ) → ((b : ℕ) → b < n → get_or xs b 0 ≡ get_or ys b 0) → greatest_below n test xs ≡ greatest_below n test ys
alike test xs ys zero same = refl
alike test xs ys (suc n) same =
    (λ i. max (alike test xs ys n (λ b lt. same b (omega (arith, lt))) i) (step_if (test n) (same n (omega arith) i)))

raised_here : (b : Bool) (x step rest : ℕ) → max rest (step_if b (max x step)) ≡ max (max rest (step_if b x)) (step_if b step)
raised_here true x step rest = omega arith
raised_here false x step rest = omega arith

-- a step that is noted at a block counts where the block passes
pub raised : (test : ℕ → Bool) (steps : List ℕ) (block step n : ℕ) → block < length steps → block < n
    → greatest_below n test (set steps block (max (get_or steps block 0) step)) ≡ max (greatest_below n test steps) (step_if (test block) step)
raised test steps block step zero inside low = absurd (omega (arith, low))
raised test steps block step (suc n) inside low = elim (cases_eq block n) [
  | inl e ↦ (
      let new = set steps block (max (get_or steps block 0) step) in
      let rest = alike test new steps n (λ b lt. get_or-set_other steps block b (max (get_or steps block 0) step) 0 (λ same. omega (arith, e, lt, same))) in
      let here : get_or new n 0 ≡ max (get_or steps n 0) step =
      ap (λ k. get_or new k 0) (sym e) ∙ get_or-set_same steps block (max (get_or steps block 0) step) 0 inside ∙ ap (λ k. max (get_or steps k 0) step) e
      in
      (λ i. max (rest i) (step_if (test n) (here i))) ∙ raised_here (test n) (get_or steps n 0) step (greatest_below n test steps)
      ∙ ap (λ k. max (max (greatest_below n test steps) (step_if (test n) (get_or steps n 0))) (step_if (test k) step)) (sym e)
      )
  | inr ne ↦ (
      let new = set steps block (max (get_or steps block 0) step) in
      let other = get_or-set_other steps block n (max (get_or steps block 0) step) 0 (λ e. ne (sym e)) in
      omega (arith, raised test steps block step n inside (omega (arith, low, ne)), ap (step_if (test n)) other)
      )
]

pub noted : (test : ℕ → Bool) (steps : List ℕ) (block step x : ℕ) → block < length steps → x ≡ max (get_or steps block 0) step
    → greatest test (set steps block x) ≡ max (greatest test steps) (step_if (test block) step)
noted test steps block step x lt is =
    (λ i. greatest_below (length-set steps block (is i) i) test (set steps block (is i))) ∙ raised test steps block step (length steps) lt lt

either_step : (b c : Bool) (x rest : ℕ) → max rest (step_if (b || c) x) ≡ max (max rest (step_if b x)) (step_if c x)
either_step true true x rest = omega arith
either_step true false x rest = omega arith
either_step false true x rest = omega arith
either_step false false x rest = omega arith

-- tests that differ at one block alone
one_more : (p q : ℕ → Bool) (c : Bool) (steps : List ℕ) (k n : ℕ) → k < n → ((b : ℕ) → b ≢ k → q b ≡ p b) → q k ≡ (p k || c)
    → greatest_below n q steps ≡ max (greatest_below n p steps) (step_if c (get_or steps k 0))
one_more p q c steps k zero low same here = absurd (omega (arith, low))
one_more p q c steps k (suc n) low same here = elim (cases_eq k n) [
  | inl e ↦ (
      let rest = agree q p steps n (λ b lt. same b (λ is. omega (arith, e, is, lt))) in
      let now : q n ≡ (p n || c) = ap q (sym e) ∙ here ∙ ap (λ b. p b || c) e in
      (λ i. max (rest i) (step_if (now i) (get_or steps n 0))) ∙ either_step (p n) c (get_or steps n 0) (greatest_below n p steps)
      ∙ ap (λ b. max (max (greatest_below n p steps) (step_if (p n) (get_or steps n 0))) (step_if c (get_or steps b 0))) (sym e)
      )
  | inr ne ↦ omega (
    arith,
    one_more p q c steps k n (omega (arith, low, ne)) same here,
    ap (λ b. step_if b (get_or steps n 0)) (same n (λ e. ne (sym e))),
  )
]

-- ## From the last block to the first

-- blocks above a number stand for themselves, and the others for those above them too
abbrev pub swept : List Block → (ℕ → Bool) → ℕ → ℕ → Bool
swept blocks test k b = cond (nat_le b k) (list_any test (line blocks b)) (test b)

pub swept_low : (blocks : List Block) (test : ℕ → Bool) (k b : ℕ) → b ≤ k → swept blocks test k b ≡ list_any test (line blocks b)
swept_low blocks test k b le = ap (λ x. cond x (list_any test (line blocks b)) (test b)) (le-leb b k le)

swept_high : (blocks : List Block) (test : ℕ → Bool) (k b : ℕ) → k < b → swept blocks test k b ≡ test b
swept_high blocks test k b lt = ap (λ x. cond x (list_any test (line blocks b)) (test b)) (lt-leb b k lt)

abbrev no_block : Block
no_block = record { parent = 0; cond = record { instruction = 0; result = 0 }; polarity = true }

-- a block hands its step to its parent
pub handed : (blocks : List Block) (test : ℕ → Bool) (steps : List ℕ) (k parent : ℕ) → suc k < length steps → parent ≤ k
    → line blocks (suc k) ≡ suc k ∷ line blocks parent
    → max (greatest (swept blocks test k) steps) (step_if (swept blocks test k parent) (get_or steps (suc k) 0)) ≡ greatest (swept blocks test (suc k)) steps
handed blocks test steps k parent lt low goes =
    ap (λ b. max (greatest (swept blocks test k) steps) (step_if b (get_or steps (suc k) 0))) (swept_low blocks test k parent low)
    ∙ sym (one_more (swept blocks test k) (swept blocks test (suc k)) (list_any test (line blocks parent)) steps (suc k) (length steps) lt others here)
  where
    others : (b : ℕ) → b ≢ suc k → swept blocks test (suc k) b ≡ swept blocks test k b
    others b ne = elim (cases_lt k b) [
      | inl less ↦ swept_high blocks test (suc k) b (above less ne) ∙ sym (swept_high blocks test k b less)
      | inr le ↦ swept_low blocks test (suc k) b (omega (arith, le)) ∙ sym (swept_low blocks test k b le)
    ]
      where
        above : k < b → b ≢ suc k → suc k < b
        above less ne = elim (cases_lt (suc k) b) [ inl lt ↦ lt | inr le ↦ absurd (ne (omega (arith, less, le))) ]

    here : swept blocks test (suc k) (suc k) ≡ (swept blocks test k (suc k) || list_any test (line blocks parent))
    here =
        swept_low blocks test (suc k) (suc k) (omega arith) ∙ ap (list_any test) goes
        ∙ ap (λ b. b || list_any test (line blocks parent)) (sym (swept_high blocks test k (suc k) (omega arith)))

-- the root has none above it
pub all_swept : (blocks : List Block) (test : ℕ → Bool) (b : ℕ) → swept blocks test 0 b ≡ test b
all_swept blocks test zero = or_false (test 0)
all_swept blocks test (suc b) = swept_high blocks test 0 (suc b) (omega arith)

-- one block hands its step up
pub swept_more : (blocks : List Block) (test : ℕ → Bool) (steps new : List ℕ) (block parent x total : ℕ) (d : Block)
    → ((k : ℕ) → line blocks (suc k) ≡ suc k ∷ line blocks (block_at blocks k).parent) → HasLowParents blocks
    → 0 < block → block ≤ length blocks → length steps ≡ suc (length blocks) → parent ≡ (get_or blocks (block - 1) d).parent → x ≡ get_or steps block 0
    → greatest (swept blocks test (block - 1)) new ≡ max (greatest (swept blocks test (block - 1)) steps) (step_if (swept blocks test (block - 1) parent) x)
    → greatest (swept blocks test block) steps ≡ total → greatest (swept blocks test (block - 1)) new ≡ total
swept_more blocks test steps new zero parent x total d goes low some inside count is at more so_far = absurd (omega (arith, some))
swept_more blocks test steps new (suc k) parent x total d goes low some inside count is at more so_far = next
  where
    e : suc k - 1 ≡ k
    e = omega arith

    here : parent ≡ (block_at blocks k).parent
    here = is ∙ ap (λ j. (get_or blocks j d).parent) e ∙ ap (λ (b : Block). b.parent) (get_or_default blocks k d no_block (omega (arith, inside)))

    below : parent ≤ k
    below = omega (arith, here, low k (omega (arith, inside)))

    next : greatest (swept blocks test (suc k - 1)) new ≡ total
    next =
        more
        ∙ (λ i. max (greatest (swept blocks test (e i)) steps) (step_if (swept blocks test (e i) parent) (at i)))
        ∙ handed blocks test steps k parent (omega (arith, count, inside)) below (goes k ∙ ap (λ p. suc k ∷ line blocks p) (sym here)) ∙ so_far
