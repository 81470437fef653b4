-- The statements of an element, one at a time, by themselves and in the whole.
use Rattle.std.proofs.Common.{◌≡◌, ◌≢◌, ℕ, zero, suc, ◌+◌, ◌<◌, ◌≤◌, ◌%◌, ◌^◌, ◌==◌, ◌||◌, Bool, true, false, List, [], ◌∷◌, ◌++◌, length, refl, sym, ap, ◌∙◌, subst, arith, slice_index, slice_set, slice_get, true≢false, Option, Some, None, is_some, ⊎_elim}
use Rattle.std.specs.List.{list_any}
use Rattle.std.proofs.lemmas.Bool.{cases_eq, eqb-true, or_cases, or_right}
use Rattle.std.proofs.lemmas.Grind.{get_or-set_at}
use Rattle.std.proofs.lemmas.List.{length-set, get_or-set_other, length_push, get_or_append_left, get_or_push}
use Rattle.gal_bits.specs.Operators.{bit}
use Rattle.packet_fields.specs.declared.field.Field.{Field}
use Rattle.packet_fields.specs.Table.{row, field_index}
use Rattle.state_store.specs.declared.object.ObjectDecl.{ObjectDecl}
use Rattle.state_store.specs.Fitting.{fits_keys}
use Rattle.state_store.specs.Store.{Object, object_at, with_object, looked_up}
use Rattle.state_store.specs.Store as store
use Rattle.element_lang.specs.Widths.{local_widths}
use Rattle.element_lang.specs.Rules.{counted_from}
use Rattle.element_lang.specs.Meaning.{State, Outcome, bind_from, bound, assigned, looked, turns}
use Rattle.element_chain.specs.Compose.{Numbering, Spot, declared, all_declared, numbers}
use Rattle.packet_fields.specs.FieldOrder.{same_index}
use Rattle.element_lang.specs.KeptRuns.{Fits, FitsOutcome}
use Rattle.element_chain.proofs.Numbers.{IsNumbered, carries_one}
use Rattle.element_chain.proofs.Stores.{object_within, set_within}
use Rattle.element_chain.proofs.Alike.{Instance, spot_of, own_port, IsIn, Alike, FieldsAlike, AlikeOutcomes, then_alike, fewer_alike}
use Rattle.lemmas.proofs.Tests.{and_first, and_second, or_true}

-- ## locals
-- what agrees of the locals
abbrev pub LocalsAgree : List ℕ → List ℕ → List ℕ → List ℕ → Type 0
LocalsAgree scope names own all = (x : ℕ) → IsIn x scope → slice_index all (slice_index names x) ≡ slice_index own x

abbrev pub any_is : ℕ → List ℕ → Bool
any_is y xs = list_any (λ z. z == y) xs

pub in_cases : (P : Type 0) (x y : ℕ) (scope : List ℕ) → IsIn x (y ∷ scope) → (x ≡ y → P) → (x ≢ y → IsIn x scope → P) → P
in_cases P x y scope is here there =
    ⊎_elim here
    (λ other. ⊎_elim (λ same. absurd (other (sym (eqb-true y x same)))) (there other) (or_cases (y == x) (any_is x scope) is))
    (cases_eq x y)

-- a value that is set in two lists, at places that are the same in both
set_both : (own all : List ℕ) (x j y k v : ℕ) → x < length own → j < length all → (y ≡ x → k ≡ j) → (y ≢ x → k ≢ j) → (y ≢ x → slice_index all k ≡ slice_index own y)
    → slice_index (slice_set all j v) k ≡ slice_index (slice_set own x v) y
set_both own all x j y k v room place same apart agree =
    ⊎_elim (λ here. get_or-set_at all j k v 0 (same here) place ∙ sym (get_or-set_at own x y v 0 here room))
    (λ other. get_or-set_other all j k v 0 (apart other) ∙ agree other ∙ sym (get_or-set_other own x y v 0 other))
    (cases_eq y x)

-- a local that is declared
pub declare_agrees : (spot : Spot) (n : Numbering) (scope own all : List ℕ) (x v : ℕ) → x ≡ length n.names → IsNumbered spot.widths n → ((y : ℕ) → IsIn y scope → y < length n.names)
    → x < length own → length n.widths < length all → LocalsAgree scope n.names own all
    → LocalsAgree (x ∷ scope) (declared spot x n).names (slice_set own x v) (slice_set all (length n.widths) v)
declare_agrees spot n scope own all x v is numbered within room place agree y is_in =
    let names : List ℕ = n.names ++ length n.widths ∷ [] in
    let new : slice_index names (length n.names) ≡ length n.widths = get_or_push n.names (length n.widths) 0 (length n.names) refl in
    let old : y ≢ x → IsIn y scope × (slice_index names y ≡ slice_index n.names y) = λ other.
    in_cases (IsIn y scope × (slice_index names y ≡ slice_index n.names y)) y x scope is_in (λ here. absurd (other here))
    (λ _ there. (there, get_or_append_left n.names (length n.widths ∷ []) 0 y (within y there))) in
    set_both own all x (length n.widths) y (slice_index names y) v room place
    (λ here. ap (slice_index names) (here ∙ is) ∙ new)
    (λ other e. absurd (omega (arith, e, (old other).1, numbered.below y (within y (old other).0))))
    (λ other. ap (slice_index all) (old other).1 ∙ agree y (old other).0)

-- a local in scope that gets another value
assign_agrees : (widths : List ℕ) (n : Numbering) (scope own all : List ℕ) (x v : ℕ) → IsNumbered widths n → ((y : ℕ) → IsIn y scope → y < length n.names) → IsIn x scope
    → x < length own → slice_index n.names x < length all → LocalsAgree scope n.names own all
    → LocalsAgree scope n.names (slice_set own x v) (slice_set all (slice_index n.names x) v)
assign_agrees widths n scope own all x v numbered within is room place agree y is_in =
    set_both own all x (slice_index n.names x) y (slice_index n.names y) v room place (ap (slice_index n.names))
    (λ other same. other (numbered.apart y x (within y is_in) (within x is) same)) (λ other. agree y is_in)

with_locals : (i : Instance) (scope names scope' names' : List ℕ) (s t : State) (own all : List ℕ) → Alike i scope names s t → LocalsAgree scope' names' own all
    → length own ≡ length s.locals → length all ≡ length t.locals → Alike i scope' names' (record s { locals = own }) (record t { locals = all })
with_locals i scope names scope' names' s t own all alike agree same_own same_all = record {
  locals = record { agree = agree; many = same_all ∙ alike.locals.many; own_many = same_own ∙ alike.locals.own_many };
  fields = alike.fields;
  store = alike.store;
}

pub bound_alike : (i : Instance) (scope : List ℕ) (n : Numbering) (x v : ℕ) (s t : State) → x ≡ length n.names → IsNumbered (local_widths i.m) n → ((y : ℕ) → IsIn y scope → y < length n.names)
    → x < length i.m.locals → length n.widths < length i.widths → Alike i scope n.names s t
    → Alike i (x ∷ scope) (declared (spot_of i) x n).names (bound x v s) (bound (length n.widths) v t)
bound_alike i scope n x v s t is numbered within room place alike =
    with_locals i scope n.names (x ∷ scope) (declared (spot_of i) x n).names s t (slice_set s.locals x v) (slice_set t.locals (length n.widths) v) alike
    (declare_agrees (spot_of i) n scope s.locals t.locals x v is numbered within (omega (arith, room, alike.locals.own_many)) (omega (arith, place, alike.locals.many)) alike.locals.agree)
    (length-set s.locals x v) (length-set t.locals (length n.widths) v)

pub assigned_alike : (i : Instance) (scope : List ℕ) (n : Numbering) (x v : ℕ) (s t : State) → IsNumbered (local_widths i.m) n → ((y : ℕ) → IsIn y scope → y < length n.names) → IsIn x scope
    → length n.names ≤ length i.m.locals → length n.widths ≤ length i.widths → Alike i scope n.names s t
    → Alike i scope n.names (bound x v s) (bound (slice_index n.names x) v t)
assigned_alike i scope n x v s t numbered within is room place alike =
    with_locals i scope n.names scope n.names s t (slice_set s.locals x v) (slice_set t.locals (slice_index n.names x) v) alike
    (assign_agrees (local_widths i.m) n scope s.locals t.locals x v numbered within is (omega (arith, within x is, room, alike.locals.own_many)) (omega (arith, numbered.below x (within x is), place, alike.locals.many)) alike.locals.agree)
    (length-set s.locals x v) (length-set t.locals (slice_index n.names x) v)

-- ## fields
port_stays : (port : Option ℕ) (own all : List ℕ) (j v : ℕ) → j ≢ 0 → own_port port all ≡ slice_index own 0 → own_port port (slice_set all j v) ≡ slice_index (slice_set own j v) 0
port_stays None own all j v other same = get_or-set_other all j 0 v 0 (λ e. other (sym e)) ∙ same ∙ sym (get_or-set_other own j 0 v 0 (λ e. other (sym e)))
port_stays (Some k) own all j v other same = same ∙ sym (get_or-set_other own j 0 v 0 (λ e. other (sym e)))

pub field_alike : (i : Instance) (scope names : List ℕ) (f : Field) (v : ℕ) (s t : State) → field_index f ≢ 0 → field_index f < 37 → i.is_set f ≡ true → Alike i scope names s t
    → Alike i scope names (assigned f v s) (assigned f v t)
field_alike i scope names f v s t other low set alike =
    let j : ℕ = field_index f in
    let u : ℕ = v % 2 ^ (row f).width in
    let old : FieldsAlike i s.fields t.fields = alike.fields in
    record {
      locals = alike.locals;
      fields = record {
        same = λ k apart. set_both s.fields t.fields j j k k u (omega (arith, low, old.own_all)) (omega (arith, low, old.all)) (λ e. e) (λ e. e) (λ _. old.same k apart);
        all = length-set t.fields j u ∙ old.all;
        own_all = length-set s.fields j u ∙ old.own_all;
        port = port_stays i.port s.fields t.fields j u other old.port;
        unset = λ g never. get_or-set_other t.fields j (field_index g) u 0
            (λ same. true≢false (sym set ∙ ap i.is_set (sym (same_index g f same)) ∙ never))
            ∙ old.unset g never;
      };
      store = alike.store;
    }

-- ## objects
-- an object that a statement names is there
pub declared_there : (os : List ObjectDecl) (o : ℕ) (widths : List ℕ) → fits_keys (slice_get os o) widths ≡ true → o < length os
declared_there [] o widths h = absurd (true≢false (sym h))
declared_there (d ∷ os) zero widths h = omega arith
declared_there (d ∷ os) (suc o) widths h = omega (arith, declared_there os o widths h)

pub object_alike : (i : Instance) (scope names : List ℕ) (s t : State) (o : ℕ) → length i.before ≡ i.base → o < length s.store → Alike i scope names s t → object_at t.store (i.base + o) ≡ object_at s.store o
object_alike i scope names s t o base lt alike =
    ap (λ st. object_at st (i.base + o)) alike.store ∙ object_within i.before s.store i.after o (i.base + o) (omega (arith, base)) lt

change_alike : (i : Instance) (scope names : List ℕ) (s t : State) (o : ℕ) (ob : Object) → length i.before ≡ i.base → o < length s.store → Alike i scope names s t
    → Alike i scope names (record s { store = with_object s.store o ob }) (record t { store = with_object t.store (i.base + o) ob })
change_alike i scope names s t o ob base lt alike = record {
  locals = alike.locals;
  fields = alike.fields;
  store = ap (λ st. with_object st (i.base + o) ob) alike.store ∙ set_within i.before s.store i.after o (i.base + o) ob (omega (arith, base)) lt;
}

-- an object changes, and a new local gets what was found there
pub changed_alike : (i : Instance) (scope : List ℕ) (n : Numbering) (x o : ℕ) (found : Object → ℕ) (change : Object → Object) (s t : State) → x ≡ length n.names → IsNumbered (local_widths i.m) n
    → ((y : ℕ) → IsIn y scope → y < length n.names) → x < length i.m.locals → length n.widths < length i.widths → length i.before ≡ i.base → o < length s.store → Alike i scope n.names s t
    → Alike i (x ∷ scope) (declared (spot_of i) x n).names
    (bound x (found (object_at s.store o)) (record s { store = with_object s.store o (change (object_at s.store o)) }))
    (bound (length n.widths) (found (object_at t.store (i.base + o))) (record t { store = with_object t.store (i.base + o) (change (object_at t.store (i.base + o))) }))
changed_alike i scope n x o found change s t is numbered within room place base lt alike =
    let ob : Object = object_at s.store o in
    subst (λ (there : Object). Alike i (x ∷ scope) (declared (spot_of i) x n).names (bound x (found ob) (record s { store = with_object s.store o (change ob) }))
    (bound (length n.widths) (found there) (record t { store = with_object t.store (i.base + o) (change there) })))
    (sym (object_alike i scope n.names s t o base lt alike))
    (bound_alike i scope n x (found ob) (record s { store = with_object s.store o (change ob) }) (record t { store = with_object t.store (i.base + o) (change ob) }) is numbered within room place
    (change_alike i scope n.names s t o (change ob) base lt alike))

-- ## a look, which binds several locals
moved_back : (a b c : Bool) → (a || (b || c)) ≡ (b || (a || c))
moved_back true b c = sym (or_true b)
moved_back false b c = refl

pub any_middle : (y x : ℕ) (xs scope : List ℕ) → any_is y (x ∷ (xs ++ scope)) ≡ any_is y (xs ++ (x ∷ scope))
any_middle y x [] scope = refl
any_middle y x (z ∷ xs) scope = moved_back (x == y) (z == y) (any_is y (xs ++ scope)) ∙ ap (λ b. (z == y) || b) (any_middle y x xs scope)

pub counted_within : (next : ℕ) (xs scope : List ℕ) (y : ℕ) → counted_from next xs ≡ true → ((y : ℕ) → IsIn y scope → y < next) → IsIn y (xs ++ scope) → y < next + length xs
counted_within next [] scope y counted within is = omega (arith, within y is)
counted_within next (x ∷ xs) scope y counted within is =
    let here : x ≡ next = eqb-true x next (and_first _ _ counted) in
    in_cases (y < next + length (x ∷ xs)) y x (xs ++ scope) is
    (λ same. omega (arith, same, here))
    (λ other there. omega (arith, counted_within (next + 1) xs scope y (and_second (x == next) _ counted) (λ z old. omega (arith, within z old)) there))

-- what several locals get, in order
abbrev BindsAgree : Spot → List ℕ → List ℕ → ℕ → Type 0
BindsAgree spot into values i = (next : ℕ) (n : Numbering) (scope own all : List ℕ) → next ≡ length n.names → counted_from next into ≡ true → IsNumbered spot.widths n
    → ((y : ℕ) → IsIn y scope → y < length n.names) → next + length into ≤ length own → length n.widths + length into ≤ length all → LocalsAgree scope n.names own all
    → LocalsAgree (into ++ scope) (all_declared spot into n).names (bind_from i into values own) (bind_from i (numbers (length n.widths) into) values all)

bind_first : (spot : Spot) (x b : ℕ) (xs values : List ℕ) (i next : ℕ) (n : Numbering) (scope own all : List ℕ) → BindsAgree spot xs values i → next ≡ length n.names → counted_from next (x ∷ xs) ≡ true
    → IsNumbered spot.widths n → ((y : ℕ) → IsIn y scope → y < length n.names) → next + suc (length xs) ≤ length own → length n.widths + suc (length xs) ≤ length all → LocalsAgree scope n.names own all
    → LocalsAgree ((x ∷ xs) ++ scope) (all_declared spot (x ∷ xs) n).names (bind_from i xs values (slice_set own x b))
    (bind_from i (numbers (suc (length n.widths)) xs) values (slice_set all (length n.widths) b))
bind_first spot x b xs values i next n scope own all binds is counted numbered within room place agree y is_in =
    let here : x ≡ next = eqb-true x next (and_first _ _ counted) in
    let one = carries_one spot x n (here ∙ is) numbered in
    let many : length (declared spot x n).names ≡ length n.names + 1 = one.count in
    let wider : length (declared spot x n).widths ≡ suc (length n.widths) = length_push n.widths (slice_index spot.widths x) ∙ omega arith in
    let rest = binds (next + 1) (declared spot x n) (x ∷ scope) (slice_set own x b) (slice_set all (length n.widths) b) (omega (arith, is, many))
    (and_second (x == next) _ counted) one.numbered
    (λ y there. in_cases (y < length (declared spot x n).names) y x scope there (λ same. omega (arith, same, here, is, many)) (λ other old. omega (arith, within y old, many)))
    (omega (arith, room, length-set own x b)) (omega (arith, place, wider, length-set all (length n.widths) b))
    (declare_agrees spot n scope own all x b (here ∙ is) numbered within (omega (arith, room, here)) (omega (arith, place)) agree) in
    subst (λ w. slice_index (bind_from i (numbers w xs) values (slice_set all (length n.widths) b)) (slice_index (all_declared spot xs (declared spot x n)).names y)
    ≡ slice_index (bind_from i xs values (slice_set own x b)) y) wider (rest y (sym (any_middle y x xs scope) ∙ is_in))

bind_agrees : (spot : Spot) (into values : List ℕ) (i : ℕ) → BindsAgree spot into values i
bind_agrees spot [] values i next n scope own all is counted numbered within room place agree = agree
bind_agrees spot (x ∷ xs) values i next n scope own all is counted numbered within room place agree =
    bind_first spot x (slice_index values i) xs values (i + 1) next n scope own all (bind_agrees spot xs values (i + 1)) is counted numbered within room place agree

length-bind : (into values : List ℕ) (i : ℕ) (locals : List ℕ) → length (bind_from i into values locals) ≡ length locals
length-bind [] values i locals = refl
length-bind (x ∷ xs) values i locals = length-bind xs values (i + 1) (slice_set locals x (slice_index values i)) ∙ length-set locals x (slice_index values i)

look_by : (i : Instance) (scope : List ℕ) (n : Numbering) (found : ℕ) (into : List ℕ) (b : ℕ) (values : List ℕ) (s t : State) → counted_from (length n.names) (found ∷ into) ≡ true
    → IsNumbered (local_widths i.m) n → ((y : ℕ) → IsIn y scope → y < length n.names)
    → length n.names + suc (length into) ≤ length i.m.locals → length n.widths + suc (length into) ≤ length i.widths → Alike i scope n.names s t
    → Alike i ((found ∷ into) ++ scope) (all_declared (spot_of i) (found ∷ into) n).names
    (record s { locals = bind_from 0 into values (slice_set s.locals found b) })
    (record t { locals = bind_from 0 (numbers (suc (length n.widths)) into) values (slice_set t.locals (length n.widths) b) })
look_by i scope n found into b values s t counted numbered within room place alike =
    with_locals i scope n.names ((found ∷ into) ++ scope) (all_declared (spot_of i) (found ∷ into) n).names s t
    (bind_from 0 into values (slice_set s.locals found b))
    (bind_from 0 (numbers (suc (length n.widths)) into) values (slice_set t.locals (length n.widths) b)) alike
    (bind_first (spot_of i) found b into values 0 (length n.names) n scope s.locals t.locals (bind_agrees (spot_of i) into values 0) refl counted numbered within
    (omega (arith, room, alike.locals.own_many)) (omega (arith, place, alike.locals.many)) alike.locals.agree)
    (length-bind into values 0 (slice_set s.locals found b) ∙ length-set s.locals found b)
    (length-bind (numbers (suc (length n.widths)) into) values 0 (slice_set t.locals (length n.widths) b) ∙ length-set t.locals (length n.widths) b)

pub look_alike : (i : Instance) (scope : List ℕ) (n : Numbering) (found : ℕ) (into : List ℕ) (o : ℕ) (key : List ℕ) (s t : State) → counted_from (length n.names) (found ∷ into) ≡ true
    → IsNumbered (local_widths i.m) n → ((y : ℕ) → IsIn y scope → y < length n.names)
    → length n.names + suc (length into) ≤ length i.m.locals → length n.widths + suc (length into) ≤ length i.widths → length i.before ≡ i.base → o < length s.store → Alike i scope n.names s t
    → Alike i ((found ∷ into) ++ scope) (all_declared (spot_of i) (found ∷ into) n).names (looked found into o key s) (looked (length n.widths) (numbers (suc (length n.widths)) into) (i.base + o) key t)
look_alike i scope n found into o key s t counted numbered within room place base lt alike =
    let ob : Object = object_at s.store o in
    subst (λ (there : Object). Alike i ((found ∷ into) ++ scope) (all_declared (spot_of i) (found ∷ into) n).names (looked found into o key s)
    (record t { locals = bind_from 0 (numbers (suc (length n.widths)) into) (looked_up there key) (slice_set t.locals (length n.widths) (bit (is_some (store.look there key)))) }))
    (sym (object_alike i scope n.names s t o base lt alike))
    (look_by i scope n found into (bit (is_some (store.look ob key))) (looked_up ob key) s t counted numbered within room place alike)

-- ## turns
pub turns_alike : (i : Instance) (scope : List ℕ) (n : Numbering) (x : ℕ) (go also : State → Outcome) → x ≡ length n.names → IsNumbered (local_widths i.m) n → ((y : ℕ) → IsIn y scope → y < length n.names)
    → x < length i.m.locals → length n.widths < length i.widths
    → ((v : ℕ) (s : State) → v < 64 → Fits i.m s → Fits i.m (bound x v s))
    → ((s : State) → Fits i.m s → FitsOutcome i.m (go s))
    → ((s t : State) → Fits i.m s → Alike i (x ∷ scope) (declared (spot_of i) x n).names s t → AlikeOutcomes i (x ∷ scope) (declared (spot_of i) x n).names (go s) (also t))
    → (count k : ℕ) (s t : State) → k + count ≤ 64 → Fits i.m s → Alike i scope n.names s t
    → AlikeOutcomes i scope n.names (turns count k x go s) (turns count k (length n.widths) also t)
turns_alike i scope n x go also is numbered within room place binds keeps goes zero k s t few fits alike = alike
turns_alike i scope n x go also is numbered within room place binds keeps goes (suc count) k s t few fits alike =
    let low : k < 64 = omega (arith, few) in
    let names : List ℕ = (declared (spot_of i) x n).names in
    let old : (y : ℕ) → y < length n.names → slice_index names y ≡ slice_index n.names y = (λ y lt. get_or_append_left n.names (length n.widths ∷ []) 0 y lt) in
    let fewer : (y : ℕ) → IsIn y scope → IsIn y (x ∷ scope) × (slice_index n.names y ≡ slice_index names y)
    = (λ y there. (or_right (x == y) (list_any (λ z. z == y) scope) there, sym (old y (within y there)))) in
    then_alike i (x ∷ scope) names scope n.names (go (bound x k s)) (also (bound (length n.widths) k t)) (turns count (suc k) x go) (turns count (suc k) (length n.widths) also)
    (goes (bound x k s) (bound (length n.widths) k t) (binds k s low fits) (bound_alike i scope n x k s t is numbered within room place alike))
    (keeps (bound x k s) (binds k s low fits))
    (λ u v fits' alike'. turns_alike i scope n x go also is numbered within room place binds keeps goes count (suc k) u v (omega (arith, few)) fits'
    (fewer_alike i (x ∷ scope) names scope n.names u v fewer alike'))
