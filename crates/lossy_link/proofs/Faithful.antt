-- Links stay faithful.
use Rattle.std.proofs.Common.{◌≡◌, ◌≢◌, ◌<◌, ℕ, Bool, true, false, not, ◌||◌, cond, List, [], ◌∷◌, ◌++◌, length, refl, sym, ap, ◌∙◌, subst, inl, inr, Some, None, arith, append-nil, append_assoc, true≢false}
use Rattle.std.specs.Prelude.{◌==◌, Option, slice_get}
use Rattle.std.specs.FinSet as set
use Rattle.std.specs.Cmp.{nat_cmp_total, unsigned_tied}
use Rattle.std.specs.List.{All, AllPairs, Contains, range_with_len}
use Rattle.std.specs.Ordering.{nat_cmp}
use Rattle.std.proofs.lemmas.Bool.{and_parts, eqb-true, not-true, or_cases}
use Rattle.std.proofs.lemmas.List.{length_push}
use Rattle.std.proofs.lemmas.List.Elements.{All-nil, All-push, All-weaker, All-filter, Contains-append_left}
use Rattle.std.proofs.lemmas.List.Quantifiers.{all_pairs_push}
use Rattle.lossy_link.specs.Link.{Link, LinkStep, give, send, arrive, confirm, first_link, with_given, with_sent, after_send, is_among, is_due, got_after, with_arrived, after_arrival, with_confirmed, after_confirmation, link_step, link_through}
use Rattle.lossy_link.specs.Laws.{IsFaithful, IsLinkOf, given_in}
use Rattle.lossy_link.specs.Sender.{unknown}
use Rattle.lossy_link.proofs.Among.{at_place, apart, contained, range_below, pushed_range}

-- ---- items

pub sent_items : (l : Link) (o : Option ℕ) → (with_sent l o).items ≡ l.items
sent_items l None = refl
sent_items l (Some n) = refl

pub arrived_items : (l : Link) (o : Option ℕ) → (with_arrived l o).items ≡ l.items
arrived_items l None = refl
arrived_items l (Some n) = refl

pub confirmed_items : (l : Link) (o : Option ℕ) → (with_confirmed l o).items ≡ l.items
confirmed_items l None = refl
confirmed_items l (Some n) = refl

pub given_through : (l : Link) (steps : List LinkStep) → (link_through l steps).items ≡ l.items ++ given_in steps
given_through l [] = sym (append-nil l.items)
given_through l (give item ∷ steps) =
    given_through (with_given l item) steps ∙ append_assoc l.items (item ∷ []) (given_in steps)
given_through l (send j ∷ steps) =
    given_through (after_send l j) steps ∙ ap (λ (items : List (List ℕ)). items ++ given_in steps) (sent_items l (slice_get (unknown l.items l.known) j))
given_through l (arrive j ∷ steps) =
    given_through (after_arrival l j) steps ∙ ap (λ (items : List (List ℕ)). items ++ given_in steps) (arrived_items l (slice_get l.sent j))
given_through l (confirm j ∷ steps) =
    given_through (after_confirmation l j) steps ∙ ap (λ (items : List (List ℕ)). items ++ given_in steps) (confirmed_items l (slice_get l.back j))

-- ---- one step

pub unknown_below : (items : List (List ℕ)) (known : set.FinSet nat_cmp) → All (λ n. n < length items) (unknown items known)
unknown_below items known =
    All-filter (λ n. not (set.contains known n)) (λ n. n < length items) (range_with_len 0 (length items)) (range_below (length items))

below_more : (items : List (List ℕ)) (item : List ℕ) (numbers : List ℕ) → All (λ n. n < length items) numbers
    → All (λ n. n < length (items ++ item ∷ [])) numbers
below_more items item numbers all =
    All-weaker (λ n. n < length items) (λ n. n < length (items ++ item ∷ []))
    (λ n h. omega (arith, length_push items item, h)) numbers all

given_faithful : (l : Link) (item : List ℕ) → IsFaithful l → IsFaithful (with_given l item)
given_faithful l item f = record {
  sent = below_more l.items item l.sent f.sent;
  items = below_more l.items item l.got f.items;
  once = f.once;
  in_order = f.in_order;
  back = f.back;
  known = f.known;
}

sent_faithful : (l : Link) (o : Option ℕ) → ((n : ℕ) → o ≡ Some n → n < length l.items) → IsFaithful l
    → IsFaithful (with_sent l o)
sent_faithful l None below f = f
sent_faithful l (Some n) below f = record {
  sent = All-push (λ n. n < length l.items) l.sent n f.sent (below n refl);
  items = f.items;
  once = f.once;
  in_order = f.in_order;
  back = f.back;
  known = f.known;
}

-- what a link has delivered after a datagram
record Grown (l : Link) (g : List ℕ) : Type 0 where
  below : All (λ n. n < length l.items) g
  once : AllPairs (λ m n. m ≢ n) g
  in_order : l.ordered ≡ true → g ≡ range_with_len 0 (length g)
  more : (m : ℕ) → Contains l.got m → Contains g m

due_next : (ordered is : Bool) → (not ordered || is) ≡ true → ordered ≡ true → is ≡ true
due_next true is due o = due
due_next false is due o = absurd (true≢false (sym o))

-- a due number wasn't delivered, and on an ordered link it is the next
pub due_parts : (l : Link) (n : ℕ) → is_due l n ≡ true
    → (is_among l.got n ≡ false) × (l.ordered ≡ true → n ≡ length l.got)
due_parts l n due =
    let parts = and_parts (not (is_among l.got n)) (not l.ordered || (n == length l.got)) due in
    (not-true (is_among l.got n) parts.0, λ o. eqb-true n (length l.got) (due_next l.ordered (n == length l.got) parts.1 o))

grown_due : (l : Link) (n : ℕ) → n < length l.items → IsFaithful l → is_due l n ≡ true → Grown l (l.got ++ n ∷ [])
grown_due l n below f due =
    let parts = due_parts l n due in
    record {
      below = All-push (λ n. n < length l.items) l.got n f.items below;
      once = all_pairs_push (λ m n. m ≢ n) l.got n f.once (λ k d inside. apart l.got n parts.0 k d inside);
      in_order = λ o. pushed_range l.got n (f.in_order o) (parts.1 o);
      more = λ m c. Contains-append_left l.got (n ∷ []) m c;
    }

grown : (l : Link) (n : ℕ) → n < length l.items → IsFaithful l → Grown l (got_after l n)
grown l n below f =
    elim (is_due l n) as (λ b. is_due l n ≡ b → Grown l (cond b (l.got ++ n ∷ []) l.got)) [
      | true ↦ λ due. grown_due l n below f due
      | false ↦ λ _. record { below = f.items; once = f.once; in_order = f.in_order; more = λ m c. c }
    ] refl

backs : (l : Link) (n : ℕ) (g : List ℕ) → ((m : ℕ) → Contains l.got m → Contains g m) → IsFaithful l
    → All (Contains g) (cond (is_among g n) (l.back ++ n ∷ []) l.back)
backs l n g more f =
    let before : All (Contains g) l.back = All-weaker (Contains l.got) (Contains g) more l.back f.back in
    elim (is_among g n) as (λ b. is_among g n ≡ b → All (Contains g) (cond b (l.back ++ n ∷ []) l.back)) [
      | true ↦ λ holds. All-push (Contains g) l.back n before (contained g n holds)
      | false ↦ λ _. before
    ] refl

arrived_faithful : (l : Link) (o : Option ℕ) → ((n : ℕ) → o ≡ Some n → n < length l.items) → IsFaithful l
    → IsFaithful (with_arrived l o)
arrived_faithful l None below f = f
arrived_faithful l (Some n) below f =
    let g = grown l n (below n refl) f in
    record {
      sent = f.sent;
      items = g.below;
      once = g.once;
      in_order = g.in_order;
      back = backs l n (got_after l n) g.more f;
      known = λ m is. g.more m (f.known m is);
    }

-- what is known after a confirmation
pub known_insert : (known : set.FinSet nat_cmp) (n m : ℕ) → set.contains (set.insert known n) m ≡ ((m == n) || set.contains known m)
known_insert known n m =
    set.contains-insert nat_cmp_total known n m ∙ ap (λ b. b || set.contains known m) (unsigned_tied m n)

confirmed_faithful : (l : Link) (o : Option ℕ) → ((n : ℕ) → o ≡ Some n → Contains l.got n) → IsFaithful l
    → IsFaithful (with_confirmed l o)
confirmed_faithful l None got f = f
confirmed_faithful l (Some n) got f = record {
  sent = f.sent;
  items = f.items;
  once = f.once;
  in_order = f.in_order;
  back = f.back;
  known = λ m is. elim (or_cases (m == n) (set.contains l.known m) (sym (known_insert l.known n m) ∙ is)) [
    | inl here ↦ subst (Contains l.got) (sym (eqb-true m n here)) (got n refl)
    | inr there ↦ f.known m there
  ];
}

pub step_faithful : (l : Link) (step : LinkStep) → IsFaithful l → IsFaithful (link_step l step)
step_faithful l (give item) f = given_faithful l item f
step_faithful l (send j) f =
    sent_faithful l (slice_get (unknown l.items l.known) j)
    (λ n is. at_place (λ n. n < length l.items) (unknown l.items l.known) j n (unknown_below l.items l.known) is) f
step_faithful l (arrive j) f =
    arrived_faithful l (slice_get l.sent j) (λ n is. at_place (λ n. n < length l.items) l.sent j n f.sent is) f
step_faithful l (confirm j) f =
    confirmed_faithful l (slice_get l.back j) (λ n is. at_place (Contains l.got) l.back j n f.back is) f

-- ---- all steps

pub first_faithful : (ordered : Bool) → IsFaithful (first_link ordered)
first_faithful ordered = record {
  sent = All-nil (λ n. n < 0);
  items = All-nil (λ n. n < 0);
  once = λ i j d before inside. absurd (omega (arith, inside));
  in_order = λ _. refl;
  back = All-nil (Contains []);
  known = λ n is. absurd (true≢false (sym is ∙ set.contains-empty nat_cmp n));
}

pub faithful_through : (l : Link) (steps : List LinkStep) → IsFaithful l → IsFaithful (link_through l steps)
faithful_through l [] f = f
faithful_through l (step ∷ steps) f = faithful_through (link_step l step) steps (step_faithful l step f)

pub is_link : (ordered : Bool) (steps : List LinkStep) → IsLinkOf ordered steps
is_link ordered steps = record {
  given = given_through (first_link ordered) steps;
  faithful = faithful_through (first_link ordered) steps (first_faithful ordered);
}
