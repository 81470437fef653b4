-- What lookups see behind so many commands, batch by batch.
use Rattle.std.proofs.Common.{◌≡◌, ℕ, ◌+◌, ◌-◌, ◌≤◌, cond, leb, List, [], ◌∷◌, ◌++◌, inl, inr, refl, sym, ◌∙◌, ap, arith, zero, suc, length, take}
use Rattle.std.proofs.lemmas.Bool.{cases_Bool, le-leb, lt-leb, leb-true, leb-false}
use Rattle.std.proofs.lemmas.List.{length-append}
use Rattle.writeback_table.specs.Commands.{commands_of, ons, versions}
use Rattle.writeback_table.proofs.Ons.{before_on, from_on}
use Rattle.output_commit.specs.Batches.{Batch, commands_in, versions_at, visible}

-- the versions of the batches that have set the bit within the first n commands
abbrev pub shown : List Batch → ℕ → ℕ
shown [] n = 0
shown (b ∷ bs) n = cond (leb n (length b.updates)) 0 (b.versions + shown bs (n - length (commands_of b.updates)))

-- ## The versions that are visible

pub versions_from : (weight : ℕ → ℕ) (n : ℕ) → versions weight (suc n) ≡ weight 0 + versions (λ i. weight (suc i)) n
versions_from weight zero = omega arith
versions_from weight (suc n) = let r = versions_from weight n in omega arith

pub versions_none : (n : ℕ) → versions (versions_at []) n ≡ 0
versions_none zero = refl
versions_none (suc n) = let r = versions_none n in omega arith

pub visible_is : (bs : List Batch) (n : ℕ) → visible bs n ≡ shown bs n
visible_is [] n = versions_none (ons (take n []))
visible_is (b ∷ bs) n = elim (cases_Bool (leb n (length b.updates))) [
  | inl t ↦ rw t (ap (versions (versions_at (b ∷ bs))) (before_on b.updates (commands_in bs) n (leb-true n (length b.updates) t)))
  | inr f ↦ rw f (ap (versions (versions_at (b ∷ bs))) (from_on b.updates (commands_in bs) n (leb-false n (length b.updates) f))
      ∙ versions_from (versions_at (b ∷ bs)) _
      ∙ ap (λ m. b.versions + m) (visible_is bs (n - length (commands_of b.updates))))
]

-- those of the first batch, and those behind it
pub visible_parts : (b : Batch) (bs : List Batch) (n : ℕ)
    → visible (b ∷ bs) n ≡ cond (leb n (length b.updates)) 0 (b.versions + visible bs (n - length (commands_of b.updates)))
visible_parts b bs n =
    visible_is (b ∷ bs) n ∙ ap (λ k. cond (leb n (length b.updates)) 0 (b.versions + k)) (sym (visible_is bs (n - length (commands_of b.updates))))

pub shown_zero : (bs : List Batch) → shown bs 0 ≡ 0
shown_zero [] = refl
shown_zero (b ∷ bs) = let t = le-leb 0 (length b.updates) (omega arith) in rw t refl

shown_more : (bs : List Batch) (m n : ℕ) → m ≤ n → shown bs m ≤ shown bs n
shown_more [] m n h = omega arith
shown_more (b ∷ bs) m n h = elim (cases_Bool (leb m (length b.updates))) [
  | inl t ↦ rw t (omega arith)
  | inr f ↦
      let high = leb-false m (length b.updates) f in
      let no = lt-leb n (length b.updates) (omega arith) in
      let r = shown_more bs (m - length (commands_of b.updates)) (n - length (commands_of b.updates)) (omega arith) in
      rw (f, no) (omega arith)
]

pub visible_more : (bs : List Batch) (m n : ℕ) → m ≤ n → visible bs m ≤ visible bs n
visible_more bs m n h = let a = visible_is bs m in let b = visible_is bs n in let c = shown_more bs m n h in omega arith

-- batches behind all others aren't seen yet
shown_front : (bs cs : List Batch) (n : ℕ) → n ≤ length (commands_in bs) → shown (bs ++ cs) n ≡ shown bs n
shown_front [] cs n h = let e : n ≡ 0 = omega arith in rw e (shown_zero cs)
shown_front (b ∷ bs) cs n h =
    let l = length-append (commands_of b.updates) (commands_in bs) in
    ap (λ m. cond (leb n (length b.updates)) 0 (b.versions + m)) (shown_front bs cs (n - length (commands_of b.updates)) (omega arith))

pub visible_front : (bs cs : List Batch) (n : ℕ) → n ≤ length (commands_in bs) → visible (bs ++ cs) n ≡ visible bs n
visible_front bs cs n h = visible_is (bs ++ cs) n ∙ shown_front bs cs n h ∙ sym (visible_is bs n)
