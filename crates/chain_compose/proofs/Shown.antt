-- What a table tells of two elements.
use Rattle.std.proofs.Common.{◌≡◌, ◌<◌, ℕ, suc, ◌+◌, ◌*◌, ◌/◌, ◌%◌, ◌&&◌, ◌||◌, Bool, false, List, length, slice_index_or, ap, ◌∙◌}
use Rattle.std.proofs.lemmas.Nat.{div-mul-add, mod-mul-add, mul-add-lt}
use Rattle.element_chain.specs.declared.chain.Wire.{Wire}
use Rattle.element_chain.specs.Wiring.{is_joined}
use Rattle.chain_compose.specs.declared.matrix.Reach.{Reach}
use Rattle.chain_compose.specs.Reach.{is_shown, is_shown_by, ShowsBy}

-- the rows of a table, one behind the other
pub record HasRows (rows : List Bool) (count : ℕ) (f : ℕ → ℕ → Bool) (n : ℕ) : Type 0 where
  pub size : length rows ≡ n
  pub each : (p : ℕ) → p < n → slice_index_or rows p false ≡ f (p / count) (p % count)

pub shown : (reach : Reach) (f : ℕ → ℕ → Bool) (count : ℕ) → reach.count ≡ count → HasRows reach.rows.items count f (count * count) → (from to : ℕ) → from < count → to < count
    → is_shown reach from to ≡ f from to
shown reach f count size rows from to low low' =
    ap (λ (k : ℕ). slice_index_or reach.rows.items (from * k + to) false) size
    ∙ rows.each (from * count + to) (mul-add-lt from count to count low low')
    ∙ ap (λ (k : ℕ). f k ((from * count + to) % count)) (div-mul-add from count to low')
    ∙ ap (f from) (mod-mul-add from count to low')

pub shows_direct : (wires : List Wire) (count : ℕ) (reach : Reach) → reach.count ≡ count → HasRows reach.rows.items count (is_joined wires) (count * count) → ShowsBy wires count 0 reach
shows_direct wires count reach size rows = record { size = size; each = shown reach (is_joined wires) count size rows }

both : (a b c x y z : Bool) → a ≡ x → b ≡ y → c ≡ z → (a || (b && c)) ≡ (x || (y && z))
both a b c x y z h k l = ap (λ (p : Bool). p || (b && c)) h ∙ ap (λ (p : Bool). x || (p && c)) k ∙ ap (λ (p : Bool). x || (y && p)) l

pub shows_more : (wires : List Wire) (count through : ℕ) (before reach : Reach) → through < count → reach.count ≡ count → HasRows reach.rows.items count (is_shown_by before through) (count * count)
    → ShowsBy wires count through before → ShowsBy wires count (suc through) reach
shows_more wires count through before reach low size rows shows = record {
  size = size;
  each = λ from to lt lt'.
      shown reach (is_shown_by before through) count size rows from to lt lt'
      ∙ both _ _ _ _ _ _ (shows.each from to lt lt') (shows.each from through lt low) (shows.each through to low lt');
}
