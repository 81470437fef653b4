-- What the write-back tables hold: of each object at most so many changes.
use Rattle.std.proofs.Common.{◌≡◌, ℕ, ◌+◌, ◌<◌, ◌≤◌, Bool, true, false, leb, eqb, List, [], ◌∷◌, ◌++◌, inl, inr, refl, sym, ◌∙◌, subst, arith}
use Rattle.std.specs.Prelude.{◌↔◌}
use Rattle.std.specs.List.{list_all}
use Rattle.std.proofs.lemmas.Bool.{cases_Bool, cases_lt, eqb-true, leb-true, le-leb, and_parts}
use Rattle.writeback_table.specs.declared.command.Update.{Update}
use Rattle.writeback_table.specs.Batches.{count_of}
use Rattle.output_commit.specs.Batches.{fits}

abbrev HasFew : List Update → ℕ → Update → Bool
HasFew all room u = leb (count_of u.object all) room

few_of : (all : List Update) (room : ℕ) (us : List Update) (o : ℕ) → list_all (HasFew all room) us ≡ true → 0 < count_of o us → count_of o all ≤ room
few_of all room [] o h some = absurd (omega arith)
few_of all room (u ∷ us) o h some =
    let parts = and_parts (HasFew all room u) (list_all (HasFew all room) us) h in
    elim (cases_Bool (eqb u.object o)) [
      | inl t ↦ subst (λ k. count_of k all ≤ room) (eqb-true u.object o t) (leb-true (count_of u.object all) room parts.0)
      | inr f ↦ few_of all room us o parts.1 (let s = rw f at some in omega arith)
    ]

all_few : (all : List Update) (room : ℕ) → ((o : ℕ) → count_of o all ≤ room) → (us : List Update) → list_all (HasFew all room) us ≡ true
all_few all room h [] = refl
all_few all room h (u ∷ us) = rw (le-leb (count_of u.object all) room (h u.object)) (all_few all room h us)

pub few : (room : ℕ) (us : List Update) → fits room us ≡ true → (o : ℕ) → count_of o us ≤ room
few room us h o = elim (cases_lt 0 (count_of o us)) [
  | inl some ↦ few_of us room us o h some
  | inr none ↦ omega arith
]

pub held_by : (room : ℕ) (us : List Update) → ((o : ℕ) → count_of o us ≤ room) → fits room us ≡ true
held_by room us h = all_few us room h us

pub exactly : (room : ℕ) (us : List Update) → (fits room us ≡ true) ↔ ((o : ℕ) → count_of o us ≤ room)
exactly room us = (few room us, held_by room us)

pub count_append : (o : ℕ) (us vs : List Update) → count_of o (us ++ vs) ≡ count_of o us + count_of o vs
count_append o [] vs = omega arith
count_append o (u ∷ us) vs = let r = count_append o us vs in omega arith

-- where one object has more, they aren't held
pub not_held : (room : ℕ) (us : List Update) (o : ℕ) → room < count_of o us → fits room us ≡ false
not_held room us o more = elim (cases_Bool (fits room us)) [
  | inl t ↦ let h = few room us t o in absurd (omega arith)
  | inr f ↦ f
]

-- with more changes they still aren't
pub more_not : (room : ℕ) (us vs : List Update) → fits room us ≡ false → fits room (us ++ vs) ≡ false
more_not room us vs h = elim (cases_Bool (fits room (us ++ vs))) [
  | inl t ↦ let so = held_by room us (λ o. let a = count_append o us vs in let m = few room (us ++ vs) t o in omega arith) in let bad = sym h ∙ so in cc
  | inr f ↦ f
]
