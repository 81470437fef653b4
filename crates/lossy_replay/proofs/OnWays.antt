-- A way, call by call.
use Rattle.std.proofs.Common.{◌≡◌, ◌<◌, ℕ, suc, Bool, true, false, not, ◌||◌, ◌&&◌, List, [], ◌∷◌, ◌++◌, length, refl, sym, ap, ◌∙◌, subst, inl, inr, Some, None, arith, true≢false}
use Rattle.std.specs.Prelude.{◌==◌, Ok, Err, Option, if◌then◌else◌, slice_get}
use Rattle.std.specs.List.{All, range_with_len, remove}
use Rattle.std.specs.List.Sorted.{IsBinarySearchResult}
use Rattle.std.specs.Ordering.{nat_cmp}
use Rattle.std.proofs.lemmas.Bool.{cond-true, eqb-true, or_cases, false_from_ne_true}
use Rattle.std.proofs.lemmas.List.{length_push}
use Rattle.std.proofs.lemmas.List.Elements.{filter-append}
use Rattle.lossy_link.specs.Laws.{IsFaithful}
use Rattle.lossy_link.specs.Link.{Link, arrive, give, is_among, link_step, with_arrived}
use Rattle.lossy_replay.specs.Linked.{arrived, gone_on, place_in, place_of, standing, without}
use Rattle.lossy_replay.specs.Lines.{IsAtWork, delivered_by, link_of}
use Rattle.lossy_replay.specs.Ways.{IsWay}
use Rattle.lossy_replay.specs.declared.way.Way.{Way}
use Rattle.lossy_replay.proofs.Apart.{among_there, goes_at}
use Rattle.lemmas.proofs.Lists.{get_past, get_pushed}
use Rattle.lemmas.proofs.Tests.{and_first, and_second}
use Rattle.lossy_replay.proofs.PlacesOnWays.{IsFoundAt, found_standing, missing_standing, one_stands, pairs_apart, range_apart}
use Rattle.lossy_link.proofs.Among.{among_filter, among_push, among_range, contained}
use Rattle.lossy_link.proofs.Faithful.{arrived_items}

-- ---- what is delivered

pub below : (got : List ℕ) (n count : ℕ) → All (λ m. m < count) got → is_among got n ≡ true → n < count
below got n count all is = let c = contained got n is in subst (λ m. m < count) c.2 (all c.0 n c.1)

-- what was not given was not taken
pub not_gone : (l : Link) (gone : List ℕ) (way : Way) → IsWay l gone way → is_among gone (length l.items) ≡ false
not_gone l gone way w =
    let faithful = subst IsFaithful w.link w.at_work.faithful in
    let count = length l.items in
    false_from_ne_true (is_among gone count) (λ there. absurd (omega (arith, below l.got count count faithful.items (w.taken count there))))

-- ---- one more item

pub way_given : (l : Link) (gone : List ℕ) (way new : Way) (item : List ℕ) → IsWay l gone way
    → IsAtWork new.line → link_of new.line ≡ link_step l (give item) → new.standing.items ≡ way.standing.items ++ length l.items ∷ []
    → new.arrived.items ≡ way.arrived.items → IsWay (link_step l (give item)) gone new
way_given l gone way new item w at_work link stand came =
    let count = length l.items in
    let long : suc count ≡ length (l.items ++ item ∷ []) = omega (arith, length_push l.items item) in
    record {
      at_work = at_work;
      link = link;
      stand = stand ∙ (ap (λ (ns : List ℕ). ns ++ count ∷ []) w.stand
          ∙ (sym (one_stands gone count (not_gone l gone way w)) ∙ ap (λ (k : ℕ). without gone (range_with_len 0 k)) long));
      came = came ∙ w.came;
      taken = w.taken;
    }

-- ---- a datagram arrives

-- nothing is delivered, or one number that wasn't
abbrev IsGotBy : List ℕ → List ℕ → Option ℕ → Type 0
IsGotBy before after None = after ≡ before
IsGotBy before after (Some n) = (after ≡ before ++ n ∷ []) × (is_among before n ≡ false)

got_case : (got : List ℕ) (n : ℕ) (among right : Bool) → is_among got n ≡ among
    → IsGotBy got (if not among && right then got ++ n ∷ [] else got) (slice_get (if not among && right then got ++ n ∷ [] else got) (length got))
got_case got n true right is = subst (IsGotBy got got) (sym (get_past got)) refl
got_case got n false true is = subst (IsGotBy got (got ++ n ∷ [])) (sym (get_pushed got n)) (refl, is)
got_case got n false false is = subst (IsGotBy got got) (sym (get_past got)) refl

got_by : (l : Link) (o : Option ℕ) → IsGotBy l.got (with_arrived l o).got (delivered_by l (with_arrived l o))
got_by l None = subst (IsGotBy l.got l.got) (sym (get_past l.got)) refl
got_by l (Some n) = got_case l.got n (is_among l.got n) (not l.ordered || (n == length l.got)) refl

among_more : (got : List ℕ) (n m : ℕ) → is_among got m ≡ true → is_among (got ++ n ∷ []) m ≡ true
among_more got n m there = among_push got n m ∙ ap (λ b. b || (n == m)) there

came_by : (l l' : Link) (gone : List ℕ) (o : Option ℕ) → ((n : ℕ) → is_among gone n ≡ true → is_among l.got n ≡ true)
    → IsGotBy l.got l'.got o → arrived l' gone ≡ gone_on (arrived l gone) o
came_by l l' gone None taken is = ap (without gone) is
came_by l l' gone (Some n) taken is =
    let fails : is_among gone n ≡ false = false_from_ne_true (is_among gone n) (λ there. true≢false (sym (taken n there) ∙ is.1)) in
    ap (without gone) is.0 ∙ (filter-append (λ k. not (is_among gone k)) l.got (n ∷ [])
    ∙ ap (λ (ns : List ℕ). without gone l.got ++ ns) (cond-true (not (is_among gone n)) (n ∷ []) [] (ap not fails)))

kept_by : (before after : List ℕ) (o : Option ℕ) (m : ℕ) → IsGotBy before after o → is_among before m ≡ true → is_among after m ≡ true
kept_by before after None m is there = ap (λ (ns : List ℕ). is_among ns m) is ∙ there
kept_by before after (Some n) m is there = ap (λ (ns : List ℕ). is_among ns m) is.0 ∙ among_more before n m there

pub way_delivered : (l : Link) (gone : List ℕ) (way new : Way) (j : ℕ) (number : Option ℕ) → IsWay l gone way → IsAtWork new.line
    → link_of new.line ≡ link_step l (arrive j) → delivered_by l (link_step l (arrive j)) ≡ number
    → new.standing.items ≡ way.standing.items → new.arrived.items ≡ gone_on way.arrived.items number
    → IsWay (link_step l (arrive j)) gone new
way_delivered l gone way new j number w at_work link by stand came =
    let o = slice_get l.sent j in
    let l' = with_arrived l o in
    let is = got_by l o in
    record {
      at_work = at_work;
      link = link;
      stand = stand ∙ (w.stand ∙ ap (λ (xs : List (List ℕ)). without gone (range_with_len 0 (length xs))) (sym (arrived_items l o)));
      came = came ∙ (ap (λ (ns : List ℕ). gone_on ns number) w.came
          ∙ sym (came_by l l' gone (delivered_by l l') w.taken is ∙ ap (gone_on (arrived l gone)) by));
      taken = λ n there. kept_by l.got l'.got (delivered_by l l') n is (w.taken n there);
    }

-- ---- what was delivered stands there

pub stands_too : (l : Link) (gone : List ℕ) (j n : ℕ) → IsFaithful l → slice_get (arrived l gone) j ≡ Some n → is_among (standing l gone) n ≡ true
stands_too l gone j n faithful is =
    let p : ℕ → Bool = λ k. not (is_among gone k) in
    let there : (is_among l.got n && p n) ≡ true = sym (among_filter p l.got n) ∙ among_there (arrived l gone) j n is in
    let inside = below l.got n (length l.items) faithful.items (and_first (is_among l.got n) (p n) there) in
    among_filter p (range_with_len 0 (length l.items)) n ∙ (ap (λ b. b && p n) (among_range 0 (length l.items) n (omega arith) (omega (arith, inside)))
    ∙ and_second (is_among l.got n) (p n) there)

-- a search by halves finds it
pub search_finds : (l : Link) (gone : List ℕ) (way : Way) (xs : List ℕ) (n place : ℕ) → IsWay l gone way → xs ≡ way.standing.items
    → IsBinarySearchResult (λ y. nat_cmp y n) xs (Ok place) → IsFoundAt (standing l gone) n place
search_finds l gone way xs n place w same search =
    found_standing gone (length l.items) n place (subst (λ (ys : List ℕ). IsBinarySearchResult (λ y. nat_cmp y n) ys (Ok place)) (same ∙ w.stand) search)

pub search_misses : (l : Link) (gone : List ℕ) (way : Way) (xs : List ℕ) (j n place : ℕ) → IsWay l gone way → xs ≡ way.standing.items
    → slice_get way.arrived.items j ≡ Some n → IsBinarySearchResult (λ y. nat_cmp y n) xs (Err place) → ⊥
search_misses l gone way xs j n place w same at search =
    let faithful = subst IsFaithful w.link w.at_work.faithful in
    let number : slice_get (arrived l gone) j ≡ Some n = ap (λ (ns : List ℕ). slice_get ns j) (sym w.came) ∙ at in
    let none = missing_standing gone (length l.items) n place (subst (λ (ys : List ℕ). IsBinarySearchResult (λ y. nat_cmp y n) ys (Err place)) (same ∙ w.stand) search) in
    true≢false (sym (stands_too l gone j n faithful number) ∙ none)

-- it is taken
pub way_takes : (l : Link) (gone : List ℕ) (way new : Way) (xs : List ℕ) (j n place : ℕ) → IsWay l gone way → xs ≡ way.standing.items
    → slice_get way.arrived.items j ≡ Some n → IsBinarySearchResult (λ y. nat_cmp y n) xs (Ok place) → new.line ≡ way.line
    → new.arrived.items ≡ remove way.arrived.items j → new.standing.items ≡ remove way.standing.items place
    → IsWay l (gone_on gone (slice_get (arrived l gone) j)) new
way_takes l gone way new xs j n place w same at search line came stand =
    let faithful = subst IsFaithful w.link w.at_work.faithful in
    let number : slice_get (arrived l gone) j ≡ Some n = ap (λ (ns : List ℕ). slice_get ns j) (sym w.came) ∙ at in
    let found = search_finds l gone way xs n place w same search in
    let got : is_among l.got n ≡ true =
    and_first (is_among l.got n) _ (sym (among_filter (λ k. not (is_among gone k)) l.got n) ∙ among_there (arrived l gone) j n number) in
    subst (λ (o : Option ℕ). IsWay l (gone_on gone o) new) (sym number) (record {
      at_work = subst IsAtWork (sym line) w.at_work;
      link = ap link_of line ∙ w.link;
      stand = stand ∙ (ap (λ (ns : List ℕ). remove ns place) w.stand
          ∙ goes_at gone (range_with_len 0 (length l.items)) place n (range_apart 0 (length l.items)) found.there);
      came = came ∙ (ap (λ (ns : List ℕ). remove ns j) w.came ∙ goes_at gone l.got j n (pairs_apart l.got faithful.once) number);
      taken = λ m in_it. elim (or_cases (is_among gone m) (n == m) (sym (among_push gone n m) ∙ in_it)) [
        | inl before ↦ w.taken m before
        | inr last ↦ subst (λ k. is_among l.got k ≡ true) (eqb-true n m last) got
      ];
    })

-- its place
pub placed_by : (l : Link) (gone : List ℕ) (way : Way) (xs : List ℕ) (j n place : ℕ) → IsWay l gone way → xs ≡ way.standing.items
    → slice_get way.arrived.items j ≡ Some n → IsBinarySearchResult (λ y. nat_cmp y n) xs (Ok place) → Some place ≡ place_of l gone j
placed_by l gone way xs j n place w same at search =
    let number : slice_get (arrived l gone) j ≡ Some n = ap (λ (ns : List ℕ). slice_get ns j) (sym w.came) ∙ at in
    sym (ap (place_in (standing l gone)) number ∙ (search_finds l gone way xs n place w same search).position_is)
