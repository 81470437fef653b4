-- A link at work, call by call.
use Rattle.std.proofs.Common.{◌≡◌, ◌<◌, ◌-◌, ◌^◌, ℕ, Bool, true, false, List, [], ◌∷◌, ◌++◌, get_or, length, map, refl, sym, ap, ◌∙◌, subst, Some, None, arith, append-nil, length-append}
use Rattle.std.specs.Prelude.{Option, if◌then◌else◌, nat_lt, slice_get}
use Rattle.std.proofs.lemmas.Bool.{ltb-true}
use Rattle.std.specs.Int.{to_be_bytes, w32}
use Rattle.std.specs.Option.{option_map}
use Rattle.std.proofs.lemmas.List.{length-map, length_push}
use Rattle.std.proofs.lemmas.Option.{slice_get-map, slice_get_read}
use Rattle.lossy_link.specs.declared.answers.Took.{Took}
use Rattle.lossy_link.specs.declared.answers.Took.TheVariants.{New, Again, Early, Malformed}
use Rattle.lossy_link.specs.declared.receiver.Delivered.{Delivered}
use Rattle.lossy_link.specs.Datagrams.{datagram, item_in, number_bytes}
use Rattle.lossy_link.specs.Ends.{Ends, confirmations_of, ends_arrived, ends_confirmed, ends_of, pair_of, receiver_of, sender_of}
use Rattle.lossy_link.proofs.Laws.{one_step_more}
use Rattle.lossy_link.specs.Laws.{IsFaithful}
use Rattle.lossy_link.specs.Link.{Link, arrive, back_after, confirm, give, got_after, is_among, is_due, link_step, send, with_arrived, with_confirmed, with_sent}
use Rattle.lossy_link.specs.Receiver.{Receiver, after_take, take_answer, with_item}
use Rattle.lossy_link.specs.Sender.{Sender, after_confirm, datagram_of, given, item_at, unknown}
use Rattle.lossy_replay.specs.Lines.{IsAtWork, delivered_by, link_of}
use Rattle.lossy_replay.specs.declared.line.Line.{Line}
use Rattle.lemmas.proofs.Lists.{get_past, get_pushed}

-- what is read at a place
pub read_at : (xs ys : List ℕ) (j n : ℕ) → ys ≡ xs → true ≡ nat_lt j (length ys) → n ≡ get_or ys j n → slice_get xs j ≡ Some n
read_at xs ys j n same there at =
    ap (λ (l : List ℕ). slice_get l j) (sym same) ∙ slice_get_read ys (length ys) j n refl (ltb-true j (length ys) (sym there)) at

-- ---- the ends of a link

numbers_of : (items : List (List ℕ)) (got : List ℕ) → map (λ (p : Delivered). p.number) (map (pair_of items) got) ≡ got
numbers_of items [] = refl
numbers_of items (n ∷ got) = ap (λ (ns : List ℕ). n ∷ ns) (numbers_of items got)

-- a line is this link, at work
pub record IsWorkOf (line : Line) (l : Link) : Type 0 where
  pub link : link_of line ≡ l
  pub at_work : IsAtWork line

pub work_of : (line : Line) (l : Link) → line.sender ≡ sender_of l → line.receiver ≡ receiver_of l → line.sent.items ≡ l.sent
    → line.back.items ≡ l.back → IsFaithful l → length l.items < 2 ^ 32 → IsWorkOf line l
work_of line l sender receiver sent back faithful few =
    let got : map (λ (p : Delivered). p.number) line.receiver.pairs ≡ l.got =
    ap (λ (r : Receiver). map (λ (p : Delivered). p.number) r.pairs) receiver ∙ numbers_of l.items l.got in
    let link : link_of line ≡ l = λ i. record {
      ordered = (receiver i).ordered;
      items = (sender i).items;
      sent = sent i;
      got = got i;
      back = back i;
      known = (sender i).known;
    } in
    record {
      link = link;
      at_work = record {
        faithful = subst IsFaithful (sym link) faithful;
        few = subst (λ (items : List (List ℕ)). length items < 2 ^ 32) (sym (ap (λ (s : Sender). s.items) sender)) few;
        receiver = receiver ∙ ap receiver_of (sym link);
      };
    }

-- ---- one more item

pub after_give : (line new : Line) (item : List ℕ) → IsAtWork line → length line.sender.items < 2 ^ 32 - 1
    → new.sender ≡ given line.sender item → IsWorkOf (record line { sender = new.sender }) (link_step (link_of line) (give item))
after_give line new item w few sender =
    let l = link_of line in
    let short : length (l.items ++ item ∷ []) < 2 ^ 32 = omega (arith, few, length_push l.items item) in
    let one = one_step_more l (give item) w.faithful short in
    work_of (record line { sender = new.sender }) (link_step l (give item)) sender (w.receiver ∙ ap (λ (e : Ends). e.receiver) one.ends) refl refl
    one.faithful short

-- ---- a datagram is sent

-- this is the j-th number that isn't known
abbrev pub unknown_is : Line → ℕ → ℕ → Type 0
unknown_is line j n = slice_get (unknown line.sender.items line.sender.known) j ≡ Some n

pub after_transmit : (line new : Line) (j n : ℕ) → IsAtWork line → unknown_is line j n
    → new.sent.items ≡ line.sent.items ++ n ∷ [] → IsWorkOf (record line { sent = new.sent }) (link_step (link_of line) (send j))
after_transmit line new j n w is sent =
    let l = link_of line in
    let step : link_step l (send j) ≡ with_sent l (Some n) = ap (with_sent l) is in
    let short : length (link_step l (send j)).items < 2 ^ 32 = subst (λ (m : Link). length m.items < 2 ^ 32) (sym step) w.few in
    let one = one_step_more l (send j) w.faithful short in
    subst (IsWorkOf (record line { sent = new.sent })) (sym step)
    (work_of (record line { sent = new.sent }) (with_sent l (Some n)) refl w.receiver sent refl (subst IsFaithful step one.faithful) w.few)

-- ---- a datagram arrives

abbrev pub told_back : Took → ℕ → List ℕ
told_back (New m) n = n ∷ []
told_back (Again m) n = n ∷ []
told_back (Early m) n = []
told_back Malformed n = []

abbrev pub delivered_in : Took → ℕ → Option ℕ
delivered_in (New m) n = Some n
delivered_in (Again m) n = None
delivered_in (Early m) n = None
delivered_in Malformed n = None

too_long : {X : Type 0} (xs ys : List X) (x : X) → length xs ≡ length ys → xs ++ x ∷ [] ≡ ys → ⊥
too_long {X = X} xs ys x same is = absurd (omega (arith, length_push xs x, ap (λ (l : List X). length l) is, same))

too_short : (back : List ℕ) (n : ℕ) → map number_bytes (back ++ n ∷ []) ≡ map number_bytes back ++ [] → ⊥
too_short back n is =
    absurd (omega (
      arith,
      ap (λ (l : List (List ℕ)). length l) is,
      length-map (back ++ n ∷ []) number_bytes,
      length_push back n,
      length-append (map number_bytes back) [],
      length-map back number_bytes,
    ))

back_of : (back : List ℕ) (n : ℕ) (b : Bool) (took : Took)
    → map number_bytes back ++ confirmations_of took ≡ map number_bytes (if b then back ++ n ∷ [] else back)
    → back ++ told_back took n ≡ (if b then back ++ n ∷ [] else back)
back_of back n true (New m) is = refl
back_of back n false (New m) is = absurd (too_long (map number_bytes back) (map number_bytes back) (number_bytes m) refl is)
back_of back n true (Again m) is = refl
back_of back n false (Again m) is = absurd (too_long (map number_bytes back) (map number_bytes back) (number_bytes m) refl is)
back_of back n true (Early m) is = absurd (too_short back n (sym is))
back_of back n false (Early m) is = append-nil back
back_of back n true Malformed is = absurd (too_short back n (sym is))
back_of back n false Malformed is = append-nil back

-- one more was delivered just where a new one was
got_of : (got : List ℕ) (n : ℕ) (b : Bool) (took : Took) (r : Receiver) (item : List ℕ) → length r.pairs ≡ length got
    → length (with_item r item took).pairs ≡ length (if b then got ++ n ∷ [] else got)
    → slice_get (if b then got ++ n ∷ [] else got) (length got) ≡ delivered_in took n
got_of got n true (New m) r item same is = get_pushed got n
got_of got n false (New m) r item same is = absurd (omega (arith, same, is, length-append r.pairs (record { number = m; item = item } ∷ [])))
got_of got n true (Again m) r item same is = absurd (omega (arith, same, is, length_push got n))
got_of got n false (Again m) r item same is = get_past got
got_of got n true (Early m) r item same is = absurd (omega (arith, same, is, length_push got n))
got_of got n false (Early m) r item same is = get_past got
got_of got n true Malformed r item same is = absurd (omega (arith, same, is, length_push got n))
got_of got n false Malformed r item same is = get_past got

pub record HasArrived (line new : Line) (j n : ℕ) (took : Took) : Type 0 where
  pub work : IsWorkOf new (link_step (link_of line) (arrive j))
  pub delivered : delivered_by (link_of line) (link_of new) ≡ delivered_in took n

pub after_deliver : (line new : Line) (j n : ℕ) (took : Took) (sent bytes : List ℕ) → IsAtWork line
    → sent ≡ line.sent.items → true ≡ nat_lt j (length sent) → n ≡ get_or sent j n
    → bytes ≡ datagram_of line.sender n → took ≡ take_answer line.receiver bytes → new.receiver ≡ after_take line.receiver bytes
    → new.back.items ≡ line.back.items ++ told_back took n
    → HasArrived line (record line { receiver = new.receiver; back = new.back }) j n took
after_deliver line new j n took sent bytes w same there at made answer receiver back =
    let is = read_at line.sent.items sent j n same there at in
    let l = link_of line in
    let e = ends_of l in
    let l' = with_arrived l (Some n) in
    let sends = datagram n (item_at l.items n) in
    let step : link_step l (arrive j) ≡ l' = ap (with_arrived l) is in
    let short : length (link_step l (arrive j)).items < 2 ^ 32 = subst (λ (m : Link). length m.items < 2 ^ 32) (sym step) w.few in
    let one = one_step_more l (arrive j) w.faithful short in
    let found : slice_get e.datagrams j ≡ Some sends =
    slice_get-map (λ m. datagram m (item_at l.items m)) l.sent j ∙ ap (option_map (λ m. datagram m (item_at l.items m))) is in
    let ends : ends_arrived e (Some sends) ≡ ends_of l' = sym (ap (ends_arrived e) found) ∙ (one.ends ∙ ap ends_of step) in
    let taken : after_take line.receiver bytes ≡ receiver_of l' =
    ap (after_take line.receiver) made ∙ (ap (λ (r : Receiver). after_take r sends) w.receiver ∙ ap (λ (x : Ends). x.receiver) ends) in
    let told : took ≡ take_answer (receiver_of l) sends =
    answer ∙ (ap (take_answer line.receiver) made ∙ ap (λ (r : Receiver). take_answer r sends) w.receiver) in
    let confirmed : map number_bytes l.back ++ confirmations_of took ≡ map number_bytes (back_after l n) =
    ap (λ (t : Took). map number_bytes l.back ++ confirmations_of t) told ∙ ap (λ (x : Ends). x.confirmations) ends in
    let behind : new.back.items ≡ l'.back = back ∙ back_of l.back n (is_among (got_after l n) n) took confirmed in
    let later : Line = record line { receiver = new.receiver; back = new.back } in
    let work = work_of later l' refl (receiver ∙ taken) refl behind (subst IsFaithful step one.faithful) w.few in
    let grown : length (with_item (receiver_of l) (item_in sends) took).pairs ≡ length l'.got =
    ap (λ (t : Took). length (with_item (receiver_of l) (item_in sends) t).pairs) told
    ∙ (ap (λ (x : Ends). length x.receiver.pairs) ends ∙ length-map l'.got (pair_of l'.items)) in
    record {
      work = subst (IsWorkOf later) (sym step) work;
      delivered = ap (λ (m : Link). slice_get m.got (length l.got)) work.link
          ∙ got_of l.got n (is_due l n) took (receiver_of l) (item_in sends) (length-map l.got (pair_of l.items)) grown;
    }

-- ---- a confirmation arrives

pub number_told : (n : ℕ) → to_be_bytes w32 n ≡ number_bytes n
unfolding number_bytes
number_told n = refl

pub after_known : (line new : Line) (j n : ℕ) → IsAtWork line → slice_get line.back.items j ≡ Some n
    → new.sender ≡ after_confirm line.sender (number_bytes n)
    → IsWorkOf (record line { sender = new.sender }) (link_step (link_of line) (confirm j))
after_known line new j n w is sender =
    let l = link_of line in
    let e = ends_of l in
    let l' = with_confirmed l (Some n) in
    let step : link_step l (confirm j) ≡ l' = ap (with_confirmed l) is in
    let short : length (link_step l (confirm j)).items < 2 ^ 32 = subst (λ (m : Link). length m.items < 2 ^ 32) (sym step) w.few in
    let one = one_step_more l (confirm j) w.faithful short in
    let found : slice_get e.confirmations j ≡ Some (number_bytes n) =
    slice_get-map number_bytes l.back j ∙ ap (option_map number_bytes) is in
    let ends : ends_confirmed e (Some (number_bytes n)) ≡ ends_of l' =
    sym (ap (ends_confirmed e) found) ∙ (one.ends ∙ ap ends_of step) in
    subst (IsWorkOf (record line { sender = new.sender })) (sym step)
    (work_of (record line { sender = new.sender }) l' (sender ∙ ap (λ (x : Ends). x.sender) ends) (w.receiver ∙ ap (λ (x : Ends). x.receiver) ends)
    refl refl (subst IsFaithful step one.faithful) w.few)
