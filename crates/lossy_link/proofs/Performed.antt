-- What the ends of a link do is what the link does.
use Rattle.std.proofs.Common.{◌≡◌, ◌<◌, ◌≤◌, ◌^◌, ℕ, Bool, true, false, not, ◌||◌, ◌&&◌, cond, List, [], ◌∷◌, ◌++◌, length, map, refl, sym, ap, ◌∙◌, subst, inl, inr, Some, None, arith, append-nil, length-append, true≢false}
use Rattle.std.specs.Prelude.{◌==◌, Option, nat_lt, slice_get, unwrap_or}
use Rattle.std.specs.Option.{option_map}
use Rattle.std.specs.Int.{w32, to_be_bytes, from_be_bytes}
use Rattle.std.specs.List.{All, Contains}
use Rattle.std.proofs.lemmas.Bool.{and_from, and_right, cases_eq, cases_lt, cond-false, cond-true, eq-eqb, le-ltb, lt-ltb, ne_eqb, not_from_false, or_right}
use Rattle.std.proofs.lemmas.List.{length-map, map_push, take_at, drop_at}
use Rattle.std.proofs.lemmas.List.Elements.{All-contains, All-map, All-weaker}
use Rattle.std.proofs.lemmas.Nat.{from_be_bytes-to_be_bytes_4}
use Rattle.std.proofs.lemmas.Option.{slice_get-map, slice_get-get_or, unwrap_or-slice_get}
use Rattle.lossy_link.specs.declared.answers.Took.{Took}
use Rattle.lossy_link.specs.declared.answers.Took.TheVariants.{New, Again, Early, Malformed}
use Rattle.lossy_link.specs.declared.receiver.Delivered.{Delivered}
use Rattle.lossy_link.specs.Datagrams.{datagram, number_bytes, number_in, item_in}
use Rattle.lossy_link.specs.Sender.{Sender, confirmed, item_at, unknown, with_known}
use Rattle.lossy_link.specs.Receiver.{Receiver, is_delivered, took_number, take_answer, with_item}
use Rattle.lossy_link.specs.Link.{Link, LinkStep, give, send, arrive, confirm, first_link, with_given, with_sent, is_among, is_due, got_after, back_after, with_arrived, with_confirmed, link_step, link_through}
use Rattle.lossy_link.specs.Ends.{Ends, ends_sent, confirmations_of, ends_arrived, ends_confirmed, ends_step, ends_through, sender_of, pair_of, receiver_of, ends_of}
use Rattle.lossy_link.specs.Laws.{IsFaithful, AreEndsOf, IsOneStep, given_in}
use Rattle.lossy_link.proofs.Among.{among_pushed, among_range, at_place, map_same}
use Rattle.lossy_link.proofs.Faithful.{faithful_through, first_faithful, given_through, step_faithful}
use Rattle.lemmas.proofs.Lists.{get_front}

-- ---- bytes

pub length-number_bytes : (n : ℕ) → length (number_bytes n) ≡ 4
unfolding number_bytes
length-number_bytes n = refl

pub number_read : (n : ℕ) (item : List ℕ) → n < 2 ^ 32 → number_in (number_bytes n ++ item) ≡ n
unfolding number_bytes number_in
number_read n item fits =
    ap (λ (bytes : List ℕ). from_be_bytes w32 bytes) (take_at (to_be_bytes w32 n) item 4 refl)
    ∙ from_be_bytes-to_be_bytes_4 n fits

number_alone : (n : ℕ) → n < 2 ^ 32 → number_in (number_bytes n) ≡ n
number_alone n fits =
    ap (λ (bytes : List ℕ). number_in bytes) (sym (append-nil (number_bytes n))) ∙ number_read n [] fits

item_read : (n : ℕ) (item : List ℕ) → item_in (datagram n item) ≡ item
item_read n item = drop_at (number_bytes n) item 4 (length-number_bytes n)

datagram_long : (n : ℕ) (item : List ℕ) → nat_lt (length (datagram n item)) 4 ≡ false
datagram_long n item =
    le-ltb (length (datagram n item)) 4 (omega (arith, length-append (number_bytes n) item, length-number_bytes n))

-- ---- items

item_more : (items : List (List ℕ)) (item : List ℕ) (n : ℕ) → n < length items
    → item_at items n ≡ item_at (items ++ item ∷ []) n
item_more items item n below = sym (ap (λ (o : Option (List ℕ)). unwrap_or o []) (get_front items (item ∷ []) n below))

item_there : (items : List (List ℕ)) (n : ℕ) → n < length items → slice_get items n ≡ Some (item_at items n)
item_there items n below = slice_get-get_or items n [] below ∙ ap Some (sym (unwrap_or-slice_get items n []))

abbrev pair_with : List ℕ → ℕ → Delivered
pair_with item number = record { number = number; item = item }

-- ---- one more item

given_ends : (l : Link) (item : List ℕ) → IsFaithful l → ends_step (ends_of l) (give item) ≡ ends_of (with_given l item)
given_ends l item f =
    let more = l.items ++ item ∷ [] in
    let pairs : map (pair_of l.items) l.got ≡ map (pair_of more) l.got =
    map_same (pair_of l.items) (pair_of more) l.got
    (All-weaker (λ n. n < length l.items) (λ n. pair_of l.items n ≡ pair_of more n)
    (λ n below. ap (λ (bytes : List ℕ). pair_with bytes n) (item_more l.items item n below)) l.got f.items) in
    let sent : map (λ n. datagram n (item_at l.items n)) l.sent ≡ map (λ n. datagram n (item_at more n)) l.sent =
    map_same (λ n. datagram n (item_at l.items n)) (λ n. datagram n (item_at more n)) l.sent
    (All-weaker (λ n. n < length l.items) (λ n. datagram n (item_at l.items n) ≡ datagram n (item_at more n))
    (λ n below. ap (λ (bytes : List ℕ). datagram n bytes) (item_more l.items item n below)) l.sent f.sent) in
    λ i. record {
      sender = record { items = more; known = l.known };
      receiver = record { ordered = l.ordered; pairs = pairs i };
      datagrams = sent i;
      confirmations = map number_bytes l.back;
    }

-- ---- a datagram is sent

sent_ends : (l : Link) (o : Option ℕ) → ends_sent (ends_of l) o ≡ ends_of (with_sent l o)
sent_ends l None = refl
sent_ends l (Some n) =
    let sent = sym (map_push (λ n. datagram n (item_at l.items n)) l.sent n) in
    λ i. record {
      sender = sender_of l;
      receiver = receiver_of l;
      datagrams = sent i;
      confirmations = map number_bytes l.back;
    }

-- ---- a datagram arrives

-- what the receiver answers, by what the link does
abbrev IsArrival : Link → ℕ → Took → Type 0
IsArrival l n (Again m) = (m ≡ n) × (is_among l.got n ≡ true)
IsArrival l n (Early m) = (m ≡ n) × (is_among l.got n ≡ false) × (is_due l n ≡ false)
IsArrival l n (New m) = (m ≡ n) × (is_due l n ≡ true)
IsArrival l n Malformed = ⊥

delivered_among : (items : List (List ℕ)) (got : List ℕ) (n : ℕ)
    → is_delivered (map (pair_of items) got) n ≡ is_among got n
delivered_among items [] n = refl
delivered_among items (x ∷ got) n = ap (λ b. (x == n) || b) (delivered_among items got n)

-- on an ordered link, what wasn't delivered stands at or behind the next
behind : (l : Link) (n : ℕ) → IsFaithful l → l.ordered ≡ true → is_among l.got n ≡ false → length l.got ≤ n
behind l n f o fails =
    elim (cases_lt n (length l.got)) [
      | inl below ↦ absurd (true≢false (sym (among_range 0 (length l.got) n (omega arith) (omega arith))
          ∙ (ap (λ (got : List ℕ). is_among got n) (sym (f.in_order o)) ∙ fails)))
      | inr above ↦ above
    ]

-- the answer to a number that wasn't delivered
fresh : (l : Link) (n : ℕ) (ordered : Bool) → IsFaithful l → l.ordered ≡ ordered → is_among l.got n ≡ false
    → IsArrival l n (cond (ordered && nat_lt (length l.got) n) (Early n) (New n))
fresh l n false f is fails =
    (refl, and_from (not (is_among l.got n)) (not l.ordered || (n == length l.got)) (not_from_false (is_among l.got n) fails) (ap (λ b. not b || (n == length l.got)) is))
fresh l n true f is fails =
    elim (cases_eq n (length l.got)) [
      | inl next ↦ subst (λ (b : Bool). IsArrival l n (cond b (Early n) (New n))) (sym (le-ltb (length l.got) n (omega (arith, next))))
          (refl, and_from (not (is_among l.got n)) (not l.ordered || (n == length l.got)) (not_from_false (is_among l.got n) fails) (or_right (not l.ordered) (n == length l.got) (eq-eqb n (length l.got) next)))
      | inr other ↦ let far = behind l n f is fails in
          subst (λ (b : Bool). IsArrival l n (cond b (Early n) (New n))) (sym (lt-ltb (length l.got) n (omega (arith, far, other))))
          (refl, fails, and_right (not (is_among l.got n)) (not l.ordered || (n == length l.got)) (ap (λ b. not b || (n == length l.got)) is ∙ ne_eqb n (length l.got) other))
    ]

arrival : (l : Link) (n : ℕ) → IsFaithful l → IsArrival l n (took_number (receiver_of l) n)
arrival l n f =
    let many : length (map (pair_of l.items) l.got) ≡ length l.got = length-map l.got (pair_of l.items) in
    let test = delivered_among l.items l.got n in
    subst (λ (b : Bool). IsArrival l n (cond b (Again n) (cond (l.ordered && nat_lt (length (map (pair_of l.items) l.got)) n) (Early n) (New n)))) (sym test)
    (subst (λ (k : ℕ). IsArrival l n (cond (is_among l.got n) (Again n) (cond (l.ordered && nat_lt k n) (Early n) (New n)))) (sym many)
    (elim (is_among l.got n) as (λ b. is_among l.got n ≡ b → IsArrival l n (cond b (Again n) (cond (l.ordered && nat_lt (length l.got) n) (Early n) (New n)))) [
      | true ↦ λ holds. (refl, holds)
      | false ↦ λ fails. fresh l n l.ordered f refl fails
    ] refl))

-- what the link has then
due_got : (l : Link) (n : ℕ) → is_due l n ≡ true → got_after l n ≡ l.got ++ n ∷ []
due_got l n due = cond-true (is_due l n) (l.got ++ n ∷ []) l.got due

same_got : (l : Link) (n : ℕ) → is_due l n ≡ false → got_after l n ≡ l.got
same_got l n due = cond-false (is_due l n) (l.got ++ n ∷ []) l.got due

again_due : (l : Link) (n : ℕ) → is_among l.got n ≡ true → is_due l n ≡ false
again_due l n holds = ap (λ b. not b && (not l.ordered || (n == length l.got))) holds

more_back : (l : Link) (n : ℕ) → is_among (got_after l n) n ≡ true → back_after l n ≡ l.back ++ n ∷ []
more_back l n holds = cond-true (is_among (got_after l n) n) (l.back ++ n ∷ []) l.back holds

same_back : (l : Link) (n : ℕ) → is_among (got_after l n) n ≡ false → back_after l n ≡ l.back
same_back l n fails = cond-false (is_among (got_after l n) n) (l.back ++ n ∷ []) l.back fails

arrived_pairs : (l : Link) (n : ℕ) (t : Took) → IsArrival l n t
    → (with_item (receiver_of l) (item_at l.items n) t).pairs ≡ map (pair_of l.items) (got_after l n)
arrived_pairs l n (New m) is =
    ap (λ (k : ℕ). map (pair_of l.items) l.got ++ pair_with (item_at l.items n) k ∷ []) is.0
    ∙ (sym (map_push (pair_of l.items) l.got n) ∙ ap (map (pair_of l.items)) (sym (due_got l n is.1)))
arrived_pairs l n (Again m) is = ap (map (pair_of l.items)) (sym (same_got l n (again_due l n is.1)))
arrived_pairs l n (Early m) is = ap (map (pair_of l.items)) (sym (same_got l n is.2))
arrived_pairs l n Malformed is = absurd is

arrived_order : (l : Link) (n : ℕ) (t : Took) → (with_item (receiver_of l) (item_at l.items n) t).ordered ≡ l.ordered
arrived_order l n (New m) = refl
arrived_order l n _ = refl

confirmed_back : (l : Link) (n m : ℕ) → m ≡ n → is_among (got_after l n) n ≡ true
    → map number_bytes l.back ++ number_bytes m ∷ [] ≡ map number_bytes (back_after l n)
confirmed_back l n m same holds =
    ap (λ (k : ℕ). map number_bytes l.back ++ number_bytes k ∷ []) same
    ∙ (sym (map_push number_bytes l.back n) ∙ ap (map number_bytes) (sym (more_back l n holds)))

arrived_back : (l : Link) (n : ℕ) (t : Took) → IsArrival l n t
    → map number_bytes l.back ++ confirmations_of t ≡ map number_bytes (back_after l n)
arrived_back l n (New m) is =
    confirmed_back l n m is.0 (ap (λ (got : List ℕ). is_among got n) (due_got l n is.1) ∙ among_pushed l.got n)
arrived_back l n (Again m) is =
    confirmed_back l n m is.0 (ap (λ (got : List ℕ). is_among got n) (same_got l n (again_due l n is.1)) ∙ is.1)
arrived_back l n (Early m) is =
    append-nil (map number_bytes l.back)
    ∙ ap (map number_bytes) (sym (same_back l n (ap (λ (got : List ℕ). is_among got n) (same_got l n is.2) ∙ is.1)))
arrived_back l n Malformed is = absurd is

-- the ends, where the receiver takes a datagram that it answers so
abbrev ends_with : Link → List ℕ → Took → Ends
ends_with l item t = record {
  sender = sender_of l;
  receiver = with_item (receiver_of l) item t;
  datagrams = map (λ n. datagram n (item_at l.items n)) l.sent;
  confirmations = map number_bytes l.back ++ confirmations_of t;
}

ends_are : (l : Link) (n : ℕ) (t : Took) → IsArrival l n t
    → ends_with l (item_at l.items n) t ≡ ends_of (with_arrived l (Some n))
ends_are l n t is =
    let pairs = arrived_pairs l n t is in
    let order = arrived_order l n t in
    let back = arrived_back l n t is in
    λ i. record {
      sender = sender_of l;
      receiver = record { ordered = order i; pairs = pairs i };
      datagrams = map (λ n. datagram n (item_at l.items n)) l.sent;
      confirmations = back i;
    }

took_datagram : (r : Receiver) (n : ℕ) (item : List ℕ) → n < 2 ^ 32 → take_answer r (datagram n item) ≡ took_number r n
took_datagram r n item fits =
    cond-false (nat_lt (length (datagram n item)) 4) Malformed (took_number r (number_in (datagram n item))) (datagram_long n item)
    ∙ ap (λ (k : ℕ). took_number r k) (number_read n item fits)

arrived_ends : (l : Link) (o : Option ℕ) → ((n : ℕ) → o ≡ Some n → n < length l.items) → length l.items < 2 ^ 32 → IsFaithful l
    → ends_arrived (ends_of l) (option_map (λ n. datagram n (item_at l.items n)) o) ≡ ends_of (with_arrived l o)
arrived_ends l None below few f = refl
arrived_ends l (Some n) below few f =
    let within : n < length l.items = below n refl in
    let item = item_at l.items n in
    let bytes = datagram n item in
    let r = receiver_of l in
    ap (λ (i : List ℕ). ends_with l i (take_answer r bytes)) (item_read n item)
    ∙ (ap (λ (t : Took). ends_with l item t) (took_datagram r n item (omega arith))
    ∙ ends_are l n (took_number r n) (arrival l n f))

-- ---- a confirmation comes back

confirmed_number : (s : Sender) (n : ℕ) → n < length s.items → n < 2 ^ 32 → confirmed s (number_bytes n) ≡ Some n
confirmed_number s n below fits =
    let long = eq-eqb (length (number_bytes n)) 4 (length-number_bytes n) in
    let read = number_alone n fits in
    let there : nat_lt (number_in (number_bytes n)) (length s.items) ≡ true =
    lt-ltb (number_in (number_bytes n)) (length s.items) (omega (arith, read, below)) in
    cond-true ((length (number_bytes n) == 4) && nat_lt (number_in (number_bytes n)) (length s.items)) (Some (number_in (number_bytes n))) None
    (and_from (length (number_bytes n) == 4) (nat_lt (number_in (number_bytes n)) (length s.items)) long there)
    ∙ ap (λ (k : ℕ). Some k) read

confirmed_ends : (l : Link) (o : Option ℕ) → ((n : ℕ) → o ≡ Some n → n < length l.items) → length l.items < 2 ^ 32
    → ends_confirmed (ends_of l) (option_map number_bytes o) ≡ ends_of (with_confirmed l o)
confirmed_ends l None below few = refl
confirmed_ends l (Some n) below few =
    let within : n < length l.items = below n refl in
    let read = confirmed_number (sender_of l) n within (omega arith) in
    λ i. record {
      sender = with_known (sender_of l) (read i);
      receiver = receiver_of l;
      datagrams = map (λ n. datagram n (item_at l.items n)) l.sent;
      confirmations = map number_bytes l.back;
    }

-- ---- all steps

pub step_ends : (l : Link) (step : LinkStep) → IsFaithful l → length l.items < 2 ^ 32
    → ends_step (ends_of l) step ≡ ends_of (link_step l step)
step_ends l (give item) f few = given_ends l item f
step_ends l (send j) f few = sent_ends l (slice_get (unknown l.items l.known) j)
step_ends l (arrive j) f few =
    ap (λ (o : Option (List ℕ)). ends_arrived (ends_of l) o) (slice_get-map (λ n. datagram n (item_at l.items n)) l.sent j)
    ∙ arrived_ends l (slice_get l.sent j) (λ n is. at_place (λ n. n < length l.items) l.sent j n f.sent is) few f
step_ends l (confirm j) f few =
    ap (λ (o : Option (List ℕ)). ends_confirmed (ends_of l) o) (slice_get-map number_bytes l.back j)
    ∙ confirmed_ends l (slice_get l.back j)
    (λ n is. All-contains (λ n. n < length l.items) l.got n f.items (at_place (Contains l.got) l.back j n f.back is)) few

step_items : (l : Link) (step : LinkStep) → length l.items ≤ length (link_step l step).items
step_items l step =
    omega (arith, ap (λ (items : List (List ℕ)). length items) (given_through l (step ∷ [])), length-append l.items (given_in (step ∷ [])))

pub one_step : (l : Link) (step : LinkStep) → IsFaithful l → length (link_step l step).items < 2 ^ 32 → IsOneStep l step
one_step l step f few =
    record { faithful = step_faithful l step f; ends = step_ends l step f (omega (arith, step_items l step)) }

ends_all : (l : Link) (steps : List LinkStep) → IsFaithful l → length (link_through l steps).items < 2 ^ 32
    → ends_through (ends_of l) steps ≡ ends_of (link_through l steps)
ends_all l [] f few = refl
ends_all l (step ∷ steps) f few =
    let here = step_items l step in
    let grown : length (link_through (link_step l step) steps).items ≡ length ((link_step l step).items ++ given_in steps) =
    ap (λ (items : List (List ℕ)). length items) (given_through (link_step l step) steps) in
    let rest = length-append (link_step l step).items (given_in steps) in
    let fewer : length (link_through (link_step l step) steps).items < 2 ^ 32 = few in
    ap (λ (e : Ends). ends_through e steps) (step_ends l step f (omega (arith, here, grown, rest, fewer)))
    ∙ ends_all (link_step l step) steps (step_faithful l step f) fewer

-- each item that is delivered is the one of its number
pairs_there : (items : List (List ℕ)) (got : List ℕ) → All (λ n. n < length items) got
    → All (λ p. slice_get items p.number ≡ Some p.item) (map (pair_of items) got)
pairs_there items got below =
    All-map (λ (p : Delivered). slice_get items p.number ≡ Some p.item) (pair_of items) got
    (All-weaker (λ n. n < length items) (λ n. slice_get items n ≡ Some (item_at items n)) (λ n h. item_there items n h) got below)

pub are_ends : (ordered : Bool) (steps : List LinkStep) → length (given_in steps) < 2 ^ 32
    → AreEndsOf ordered steps
are_ends ordered steps few =
    let l = link_through (first_link ordered) steps in
    let given = given_through (first_link ordered) steps in
    let f = faithful_through (first_link ordered) steps (first_faithful ordered) in
    let same = ends_all (first_link ordered) steps (first_faithful ordered) (omega (arith, ap (λ (items : List (List ℕ)). length items) given, few)) in
    record {
      ends = same;
      delivered = subst (λ (e : Ends). All (λ p. slice_get (given_in steps) p.number ≡ Some p.item) e.receiver.pairs) (sym same)
          (subst (λ (items : List (List ℕ)). All (λ p. slice_get items p.number ≡ Some p.item) (map (pair_of l.items) l.got)) given (pairs_there l.items l.got f.items));
    }
