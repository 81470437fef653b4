-- The objects of the whole, one by one.
use Rattle.std.proofs.Common.{◌≡◌, ℕ, zero, suc, ◌+◌, ◌<◌, ◌==◌, cond, List, [], ◌∷◌, length, take, drop, refl, ap, ◌∙◌, arith, slice_set, Option, Some, None}
use Rattle.std.proofs.lemmas.Bool.{cond_both}
use Rattle.std.proofs.lemmas.List.{length-set}
use Rattle.packet_fields.specs.Arrivals.{IsArrival}
use Rattle.packet_fields.specs.declared.packet.Packet.{Packet}
use Rattle.packet_fields.specs.declared.verdict.Verdict.{Verdict}
use Rattle.packet_fields.specs.declared.verdict.Verdict.TheVariants.{Drop, Send}
use Rattle.state_store.specs.Store.{Store, object_at}
use Rattle.element_lang.specs.Tree.{StmtTree, BodyTree, Tree}
use Rattle.element_lang.specs.Tree.StmtTree.{put, del, choose, repeat}
use Rattle.element_lang.specs.Tree.BodyTree.{done, stmt}
use Rattle.element_lang.specs.Meaning.{State, Outcome, Running, Ended, then_do, bound, value_of, turns, do_stmt, do_body, store_after, source_store, source_verdict}
use Rattle.element_chain.specs.declared.chain.Wire.{Wire}
use Rattle.element_chain.specs.declared.chain.Target.{Target}
use Rattle.element_chain.specs.declared.chain.Target.TheVariants.{Element, Out}
use Rattle.element_chain.specs.Chain.{Connected, Runs, element_at, store_at, wire_at, arrived, along, passed_on, element_run, run_within, chain_run}
use Rattle.element_chain.specs.Compose.{base_of, joined, composed}
use Rattle.element_chain.specs.Laws.{AreKept}
use Rattle.element_chain.proofs.Ranked.{IsRanked}
use Rattle.element_chain.proofs.Stores.{object_within, joined_at, base_right}
use Rattle.element_chain.proofs.Whole.{whole_is_chain}

-- ## a run leaves as many objects
abbrev HasObjects : ℕ → Outcome → Type 0
HasObjects k o = length (store_after o) ≡ k

then_has : (k : ℕ) (o : Outcome) (go : State → Outcome) → HasObjects k o → ((s : State) → length s.store ≡ k → HasObjects k (go s)) → HasObjects k (then_do o go)
then_has k (Running s) go has goes = goes s has
then_has k (Ended st verdict) go has goes = has

turns_have : (k x : ℕ) (go : State → Outcome) → ((s : State) → length s.store ≡ k → HasObjects k (go s)) → (n i : ℕ) (s : State) → length s.store ≡ k → HasObjects k (turns n i x go s)
turns_have k x go goes zero i s has = has
turns_have k x go goes (suc n) i s has =
    then_has k (go (bound x i s)) (turns n (suc i) x go) (goes (bound x i s) has) (λ u has'. turns_have k x go goes n (suc i) u has')

mutual
  stmt_has : (widths : List ℕ) (packet : Packet) (k : ℕ) (t : StmtTree) (s : State) → length s.store ≡ k → HasObjects k (do_stmt widths packet t s)
  stmt_has widths packet k (put ok object keys values) s has = length-set s.store object _ ∙ has
  stmt_has widths packet k (del was object keys) s has = length-set s.store object _ ∙ has
  stmt_has widths packet k (choose test first second) s has =
      cond_both (value_of widths packet test s == 0) (do_body widths packet second s) (do_body widths packet first s) (HasObjects k) (λ e. body_has widths packet k second s has)
      (λ e. body_has widths packet k first s has)
  stmt_has widths packet k (repeat index count body) s has = turns_have k index (do_body widths packet body) (λ u has'. body_has widths packet k body u has') count 0 s has
  stmt_has widths packet k _ s has = has

  body_has : (widths : List ℕ) (packet : Packet) (k : ℕ) (b : BodyTree) (s : State) → length s.store ≡ k → HasObjects k (do_body widths packet b s)
  body_has widths packet k done s has = has
  body_has widths packet k (stmt t b) s has =
      then_has k (do_stmt widths packet t s) (do_body widths packet b) (stmt_has widths packet k t s has) (λ u has'. body_has widths packet k b u has')

run_has : (m : Tree) (st : Store) (packet : Packet) → length (source_store m st packet) ≡ length st
run_has m st packet = body_has _ packet (length st) m.body _ refl

-- ## and so does a chain
record SameSizes (before after : List Store) : Type 0 where
  pub count : length after ≡ length before
  pub each : (i : ℕ) → length (store_at after i) ≡ length (store_at before i)

abbrev KeepsSizes : Runs → Type 0
KeepsSizes run = (e : ℕ) (stores : List Store) (packet : Packet) → SameSizes stores (run e stores packet).stores

same_sizes : (stores : List Store) → SameSizes stores stores
same_sizes stores = record { count = refl; each = λ i. refl }

more_sizes : (a b c : List Store) → SameSizes a b → SameSizes b c → SameSizes a c
more_sizes a b c first second = record { count = second.count ∙ first.count; each = λ i. second.each i ∙ first.each i }

arrived_sizes : (run : Runs) → KeepsSizes run → (target : Target) (input : ℕ) (stores : List Store) (bytes : List ℕ) → SameSizes stores (arrived run target input stores bytes).stores
arrived_sizes run keeps Out input stores bytes = same_sizes stores
arrived_sizes run keeps (Element e) input stores bytes = keeps e stores (record { port = input; bytes = bytes })

along_sizes : (run : Runs) → KeepsSizes run → (o : Option Wire) (stores : List Store) (bytes : List ℕ) → SameSizes stores (along run o stores bytes).stores
along_sizes run keeps None stores bytes = same_sizes stores
along_sizes run keeps (Some w) stores bytes = arrived_sizes run keeps w.to w.input stores bytes

passed_sizes : (run : Runs) → KeepsSizes run → (wires : List Wire) (e : ℕ) (stores : List Store) (verdict : Verdict) → SameSizes stores (passed_on run wires e stores verdict).stores
passed_sizes run keeps wires e stores Drop = same_sizes stores
passed_sizes run keeps wires e stores (Send output bytes) = along_sizes run keeps (wire_at wires e output) stores bytes

set_sizes : (stores : List Store) (e : ℕ) (st : Store) → length st ≡ length (store_at stores e) → SameSizes stores (slice_set stores e st)
set_sizes stores e st same = record { count = length-set stores e st; each = λ i. set_at stores e i st same }
  where
    set_at : (stores : List Store) (e i : ℕ) (st : Store) → length st ≡ length (store_at stores e) → length (store_at (slice_set stores e st) i) ≡ length (store_at stores i)
    set_at [] e i st same = refl
    set_at (x ∷ stores) zero zero st same = same
    set_at (x ∷ stores) zero (suc i) st same = refl
    set_at (x ∷ stores) (suc e) zero st same = refl
    set_at (x ∷ stores) (suc e) (suc i) st same = set_at stores e i st same

element_sizes : (c : Connected) (run : Runs) → KeepsSizes run → (e : ℕ) (stores : List Store) (packet : Packet) → SameSizes stores (element_run c run e stores packet).stores
element_sizes c run keeps e stores packet =
    let m : Tree = element_at c.elements e in
    let own : Store = source_store m (store_at stores e) packet in
    more_sizes stores (slice_set stores e own) (element_run c run e stores packet).stores (set_sizes stores e own (run_has m (store_at stores e) packet))
    (passed_sizes run keeps c.wires e (slice_set stores e own) (source_verdict m (store_at stores e) packet))

within_sizes : (c : Connected) (n : ℕ) → KeepsSizes (run_within c n)
within_sizes c zero e stores packet = same_sizes stores
within_sizes c (suc n) e stores packet = element_sizes c (run_within c n) (within_sizes c n) e stores packet

-- ## each object
pub each_object : (c : Connected) (stores : List Store) (packet : Packet) (e o : ℕ) → IsRanked c → AreKept c.elements stores → IsArrival packet → e < length c.elements → o < length (element_at c.elements e).objects
    → object_at (source_store (composed c) (joined stores) packet) (base_of c.elements e + o) ≡ object_at (store_at (chain_run c stores packet).stores e) o
each_object c stores packet e o fit kept arrives lt lt' =
    let after : List Store = (chain_run c stores packet).stores in
    let same = element_sizes c (run_within c (length c.elements)) (within_sizes c (length c.elements)) 0 stores packet in
    let count : length after ≡ length c.elements = same.count ∙ kept.count in
    let each : (i : ℕ) → i < length c.elements → length (store_at after i) ≡ length (element_at c.elements i).objects = (λ i below. same.each i ∙ (kept.each i below).count) in
    let here : length (joined (take e after)) ≡ base_of c.elements e = base_right c.elements after e count each lt in
    let sized : length (store_at after e) ≡ length (element_at c.elements e).objects = each e lt in
    ap (λ st. object_at st (base_of c.elements e + o)) ((whole_is_chain c stores packet fit kept arrives).0 ∙ joined_at after e (omega (arith, lt, count)))
    ∙ object_within (joined (take e after)) (store_at after e) (joined (drop (suc e) after)) o (base_of c.elements e + o) (omega (arith, here)) (omega (arith, lt', sized))
