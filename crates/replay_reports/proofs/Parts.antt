-- The parts of a report: one for each object that is no table, and one for each that the switch keeps.
use Rattle.std.proofs.Common.{◌≡◌, ◌≤◌, ◌+◌, ℕ, Bool, true, false, List, [], ◌∷◌, map, Some, refl, sym, ap, ◌∙◌, subst}
use Rattle.std.proofs.Common.{arith, suc}
use Rattle.std.specs.Prelude.{All, if◌then◌else◌, slice_get}
use Rattle.std.specs.List.{AllByRecursion as Each}
use Rattle.std.proofs.lemmas.Option.{get_or_from_slice_get, slice_get_within}
use Rattle.state_store.specs.declared.object.ObjectDecl.{ObjectDecl}
use Rattle.state_store.specs.Kept.{IsKept}
use Rattle.state_store.specs.Kinds.{is_table, is_constant}
use Rattle.state_store.specs.Store.{Store, object_at, rows_of}
use Rattle.run_model.specs.declared.run.ObjectRows.{ObjectRows}
use Rattle.run_model.specs.Parts.{parts_from, parts_of, parts_where}
use Rattle.split_model.specs.Bounds as bounds
use Rattle.report_text.specs.Form.{IsPart, kept_from, AreInOrder}
use Rattle.replay_reports.proofs.Rows.{kept_told}
use Rattle.replay_reports.proofs.Versions.{if_both}
use Rattle.state_store.proofs.Constants.{constant_at}
use Rattle.std.proofs.lemmas.Bool.{cond_both}

-- ## Objects

small_at : (objects : List ObjectDecl) (n : ℕ) (d : ObjectDecl) → All bounds.IsSmall objects
    → slice_get objects n ≡ Some d → d.size ≤ 1048576
small_at objects n d all there =
    subst (λ (o : ObjectDecl). o.size ≤ 1048576) (get_or_from_slice_get objects n d d there)
    (all n d (slice_get_within objects n d there)).size

abbrev part_at : ℕ → Store → ObjectRows
part_at n store = record { object = n; rows = rows_of (object_at store n) }

-- ## The server's

numbered : (test : Bool) (part : ObjectRows) (parts : List ObjectRows) (ns : List ℕ) (n : ℕ) → part.object ≡ n
    → map (λ (p : ObjectRows). p.object) parts ≡ ns
    → map (λ (p : ObjectRows). p.object) (if test then parts else part ∷ parts) ≡ (if test then ns else n ∷ ns)
numbered true part parts ns n here rest = rest
numbered false part parts ns n here rest = ap (λ k. k ∷ map (λ (p : ObjectRows). p.object) parts) here ∙ ap (λ l. n ∷ l) rest

pub numbers_from : (n : ℕ) (objects : List ObjectDecl) (store : Store)
    → map (λ (p : ObjectRows). p.object) (parts_from n objects store) ≡ kept_from n objects
numbers_from n [] store = refl
numbers_from n (object ∷ objects) store =
    numbered (is_table object.kind) (part_at n store) (parts_from (suc n) objects store) (kept_from (suc n) objects) n refl
    (numbers_from (suc n) objects store)

-- the objects from a number on are those that are declared
abbrev Stands : List ObjectDecl → ℕ → List ObjectDecl → Type 0
Stands declared n objects = (i : ℕ) → slice_get objects i ≡ slice_get declared (n + i)

first_stands : (declared : List ObjectDecl) (n : ℕ) (object : ObjectDecl) (objects : List ObjectDecl)
    → Stands declared n (object ∷ objects) → slice_get declared n ≡ Some object
first_stands declared n object objects stands =
    let same : n + 0 ≡ n = omega arith in sym (stands 0 ∙ ap (slice_get declared) same)

others_stand : (declared : List ObjectDecl) (n : ℕ) (object : ObjectDecl) (objects : List ObjectDecl)
    → Stands declared n (object ∷ objects) → Stands declared (suc n) objects
others_stand declared n object objects stands i =
    let same : n + suc i ≡ suc n + i = omega arith in stands (suc i) ∙ ap (slice_get declared) same

module _ (declared : List ObjectDecl) (store : Store) (small : All bounds.IsSmall declared) (kept : IsKept declared store) where
  told_part : (n : ℕ) (object : ObjectDecl) → slice_get declared n ≡ Some object → is_table object.kind ≡ false
      → IsPart declared (part_at n store)
  told_part n object there kind =
      let told = kept_told object (object_at store n) (kept.each n object there) (small_at declared n object small there) in
      record { object = object; is = there; kind = kind; few = told.few; rows = told.each; rising = told.rising }

  server_from : (n : ℕ) (objects : List ObjectDecl) → Stands declared n objects
      → Each (IsPart declared) (parts_from n objects store)
  server_from n [] stands = tt
  server_from n (object ∷ objects) stands =
      let rest = server_from (suc n) objects (others_stand declared n object objects stands) in
      cond_both (is_table object.kind) (parts_from (suc n) objects store) _ (Each (IsPart declared)) (λ table. rest)
      (λ kind. (told_part n object (first_stands declared n object objects stands) kind, rest))

  pub server_parts : Each (IsPart declared) (parts_of declared store)
  server_parts = server_from 0 declared (λ i. let same : i ≡ 0 + i = omega arith in ap (slice_get declared) same)

  -- ## The switch's

  module _ (test : ℕ → Bool) (changing : (n : ℕ) → test n ≡ true → is_constant declared n ≡ false) where
    switch_from : (n : ℕ) (objects : List ObjectDecl) → Stands declared n objects
        → Each (IsPart declared) (parts_where test n objects store)
    switch_from n [] stands = tt
    switch_from n (object ∷ objects) stands =
        let rest = switch_from (suc n) objects (others_stand declared n object objects stands) in
        let there = first_stands declared n object objects stands in
        cond_both (test n) (part_at n store ∷ parts_where test (suc n) objects store) _ (Each (IsPart declared))
        (λ shown. (told_part n object there (sym (constant_at declared n object there) ∙ changing n shown), rest))
        (λ hidden. rest)

    pub switch_parts : Each (IsPart declared) (parts_where test 0 declared store)
    switch_parts = switch_from 0 declared (λ i. let same : i ≡ 0 + i = omega arith in ap (slice_get declared) same)

lower : (n k : ℕ) (parts : List ObjectRows) → n ≤ k → AreInOrder k parts → AreInOrder n parts
lower n k [] low rising = tt
lower n k (part ∷ parts) low rising = (omega arith, rising.1)

pub switch_order : (test : ℕ → Bool) (n : ℕ) (objects : List ObjectDecl) (store : Store)
    → AreInOrder n (parts_where test n objects store)
switch_order test n [] store = tt
switch_order test n (object ∷ objects) store =
    let rest = switch_order test (suc n) objects store in
    if_both (AreInOrder n) (test n) (part_at n store ∷ parts_where test (suc n) objects store) (parts_where test (suc n) objects store)
    (omega arith, rest) (lower n (suc n) (parts_where test (suc n) objects store) (omega arith) rest)
