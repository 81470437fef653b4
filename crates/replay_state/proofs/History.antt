-- The objects of each version, batch by batch, also where batches are taken up.
use Rattle.std.proofs.Common.{◌≡◌, ℕ, ◌+◌, ◌-◌, ◌≤◌, Bool, true, leb, eqb, List, [], ◌∷◌, ◌++◌, inl, inr, refl, sym, ◌∙◌, ap, subst, arith, zero, suc, take, map, length}
use Rattle.std.proofs.lemmas.Bool.{cases_Bool}
use Rattle.std.proofs.lemmas.List.{get_or_append_left, get_or_push}
use Rattle.state_store.specs.Store.{Object, Store, object_at}
use Rattle.writeback_table.specs.declared.command.Update.{Update}
use Rattle.writeback_table.specs.declared.command.Command.{Command}
use Rattle.writeback_table.specs.Commands.{commands_of, ons}
use Rattle.writeback_table.specs.Batches.{changed_at, changed_by, object_after, TakesAll, AreTaken, count_of}
use Rattle.output_commit.specs.Batches.{Batch, merged, take_up}
use Rattle.replay_state.specs.State.{store_at}
use Rattle.output_commit.specs.Laws.{versions_in}

-- ---- changes one behind the other

pub changed_append : (o : ℕ) (object : Object) (us vs : List Update) → changed_by o object (us ++ vs) ≡ changed_by o (changed_by o object us) vs
changed_append o object [] vs = refl
changed_append o object (u ∷ us) vs = changed_append o (changed_at o object u) us vs

pub takes_append : (o : ℕ) (object : Object) (us vs : List Update) → TakesAll o object us → TakesAll o (changed_by o object us) vs
    → TakesAll o object (us ++ vs)
takes_append o object [] vs h k = k
takes_append o object (u ∷ us) vs h k = (h.0, takes_append o (changed_at o object u) us vs h.1 k)

-- ---- the objects of each version

-- From version v on, where the object is this one, the batches lead to the object that the server has now: each version
-- that a batch ends with began with it, and each batch finds room.
abbrev pub Begun : ℕ → ℕ → List Store → Store → ℕ → Object → List Batch → Type 0
Begun o room stores now v object [] = (object_at (store_at stores v) o ≡ object) × (object_at now o ≡ object)
Begun o room stores now v object (b ∷ bs) =
    (object_at (store_at stores v) o ≡ object) × (count_of o b.updates ≤ room) × TakesAll o object b.updates
    × Begun o room stores now (v + b.versions) (changed_by o object b.updates) bs

abbrev pub updates_in : List Batch → List (List Update)
updates_in bs = map (λ b. b.updates) bs

-- how many versions the first k batches make
abbrev pub versions_first : List Batch → ℕ → ℕ
versions_first bs zero = 0
versions_first [] (suc k) = 0
versions_first (b ∷ bs) (suc k) = b.versions + versions_first bs k

-- ---- a batch takes up those behind it

abbrev joined : Batch → Batch → Batch
joined b c = record { updates = b.updates ++ c.updates; versions = b.versions + c.versions }

begun_joined : (o room : ℕ) (stores : List Store) (now : Store) (v : ℕ) (object : Object) (b c : Batch) (bs : List Batch) → count_of o (b.updates ++ c.updates) ≤ room
    → Begun o room stores now v object (b ∷ (c ∷ bs)) → Begun o room stores now v object (joined b c ∷ bs)
begun_joined o room stores now v object b c bs fits h =
    let rest = h.3 in
    let sum : v + b.versions + c.versions ≡ v + (b.versions + c.versions) = omega arith in (
      h.0,
      fits,
      takes_append o object b.updates c.updates h.2 rest.2,
      subst (λ n. Begun o room stores now n (changed_by o object (b.updates ++ c.updates)) bs) sum
          (subst (λ x. Begun o room stores now (v + b.versions + c.versions) x bs) (sym (changed_append o object b.updates c.updates)) rest.3),
    )

pub begun_taken_up : (o room : ℕ) (stores : List Store) (now : Store) (fits : List Update → Bool) → ((us : List Update) → fits us ≡ true → count_of o us ≤ room)
    → (v : ℕ) (object : Object) (b : Batch) (bs : List Batch) → Begun o room stores now v object (b ∷ bs) → Begun o room stores now v object (take_up fits b bs)
begun_taken_up o room stores now fits law v object b [] h = h
begun_taken_up o room stores now fits law v object b (c ∷ bs) h = elim (cases_Bool (fits (b.updates ++ c.updates))) [
  | inl t ↦ rw t (begun_taken_up o room stores now fits law v object (joined b c) bs (begun_joined o room stores now v object b c bs (law (b.updates ++ c.updates) t) h))
  | inr t ↦ rw t h
]

pub begun_merged : (o room : ℕ) (stores : List Store) (now : Store) (fits : List Update → Bool) → ((us : List Update) → fits us ≡ true → count_of o us ≤ room)
    → (n v : ℕ) (object : Object) (bs : List Batch) → Begun o room stores now v object bs → Begun o room stores now v object (merged fits n bs)
begun_merged o room stores now fits law n v object [] h = h
begun_merged o room stores now fits law n v object (b ∷ bs) h = elim (cases_Bool (eqb n 0)) [
  | inl t ↦ rw t (begun_taken_up o room stores now fits law v object b bs h)
  | inr f ↦ elim (cases_Bool (leb (length (commands_of b.updates)) n)) [
    | inl t ↦ rw (f, t) (h.0, h.1, h.2, begun_merged o room stores now fits law (n - length (commands_of b.updates)) (v + b.versions) (changed_by o object b.updates) bs h.3)
    | inr t ↦ rw (f, t) h
  ]
]

-- ---- a batch more, of one version

pub begun_push : (o room : ℕ) (stores : List Store) (now new : Store) (b : Batch) → b.versions ≡ 1 → count_of o b.updates ≤ room → TakesAll o (object_at now o) b.updates
    → object_at new o ≡ changed_by o (object_at now o) b.updates
    → (v : ℕ) (object : Object) (bs : List Batch) → length stores ≡ v + versions_in bs + 1 → Begun o room stores now v object bs
    → Begun o room (stores ++ new ∷ []) new v object (bs ++ b ∷ [])
begun_push o room stores now new b one few takes is v object [] long h =
    let there = get_or_append_left stores (new ∷ []) [] v (omega arith) in
    let here = get_or_push stores new [] (v + b.versions) (omega arith) in
    let changed : object_at new o ≡ changed_by o object b.updates = is ∙ ap (λ x. changed_by o x b.updates) h.1 in
    (ap (λ s. object_at s o) there ∙ h.0, few, subst (λ x. TakesAll o x b.updates) h.1 takes, (ap (λ s. object_at s o) here ∙ changed, changed))
begun_push o room stores now new b one few takes is v object (c ∷ bs) long h =
    let there = get_or_append_left stores (new ∷ []) [] v (omega arith) in
    (ap (λ s. object_at s o) there ∙ h.0, h.1, h.2, begun_push o room stores now new b one few takes is (v + c.versions) (changed_by o object c.updates) bs (omega arith) h.3)

-- another store of the server, with the same object
pub begun_now : (o room : ℕ) (stores : List Store) (now other : Store) → object_at other o ≡ object_at now o → (v : ℕ) (object : Object) (bs : List Batch)
    → Begun o room stores now v object bs → Begun o room stores other v object bs
begun_now o room stores now other same v object [] h = (h.0, same ∙ h.1)
begun_now o room stores now other same v object (b ∷ bs) h = (h.0, h.1, h.2, begun_now o room stores now other same (v + b.versions) (changed_by o object b.updates) bs h.3)

-- ---- what follows

pub begun_taken : (o room : ℕ) (stores : List Store) (now : Store) (v : ℕ) (object : Object) (bs : List Batch) → Begun o room stores now v object bs → AreTaken o room object (updates_in bs)
begun_taken o room stores now v object [] h = tt
begun_taken o room stores now v object (b ∷ bs) h = (h.1, h.2, begun_taken o room stores now (v + b.versions) (changed_by o object b.updates) bs h.3)

pub begun_end : (o room : ℕ) (stores : List Store) (now : Store) (v : ℕ) (object : Object) (bs : List Batch) → Begun o room stores now v object bs → object_at now o ≡ object_after o object (updates_in bs)
begun_end o room stores now v object [] h = h.1
begun_end o room stores now v object (b ∷ bs) h = begun_end o room stores now (v + b.versions) (changed_by o object b.updates) bs h.3

pub begun_first : (o room : ℕ) (stores : List Store) (now : Store) (v : ℕ) (object : Object) (bs : List Batch) → Begun o room stores now v object bs → object_at (store_at stores v) o ≡ object
begun_first o room stores now v object [] h = h.0
begun_first o room stores now v object (b ∷ bs) h = h.0

pub begun_at : (o room : ℕ) (stores : List Store) (now : Store) (k v : ℕ) (object : Object) (bs : List Batch) → k ≤ length bs → Begun o room stores now v object bs
    → object_at (store_at stores (v + versions_first bs k)) o ≡ object_after o object (take k (updates_in bs))
begun_at o room stores now zero v object bs low h = let e : v + 0 ≡ v = omega arith in rw e (begun_first o room stores now v object bs h)
begun_at o room stores now (suc k) v object [] low h = absurd (omega arith)
begun_at o room stores now (suc k) v object (b ∷ bs) low h =
    let e : v + (b.versions + versions_first bs k) ≡ v + b.versions + versions_first bs k = omega arith in
    rw e (begun_at o room stores now k (v + b.versions) (changed_by o object b.updates) bs (omega arith) h.3)

pub ons_most : (cs : List Command) (n : ℕ) → ons (take n cs) ≤ ons cs
ons_most cs zero = omega arith
ons_most [] (suc n) = omega arith
ons_most (c ∷ cs) (suc n) = let r = ons_most cs n in omega arith
