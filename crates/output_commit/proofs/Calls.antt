-- Every list of calls keeps the counts in order, and what is seen only rises.
use Rattle.std.proofs.Common.{◌≡◌, ◌≤◌, ℕ, ◌+◌, Bool, true, false, cond, nat_lt, List, [], ◌∷◌, ◌++◌, length, take, Option, Some, None, refl, sym, subst, ap, ◌∙◌, arith, append-nil, append_assoc}
use Rattle.std.specs.Prelude.{slice_get, remove}
use Rattle.std.proofs.lemmas.Bool.{ltb-true, ltb-false}
use Rattle.writeback_table.specs.declared.command.Update.{Update}
use Rattle.output_commit.specs.declared.output.Output.{Output}
use Rattle.output_commit.specs.declared.output.Release.TheVariants.{Frame, NotYet}
use Rattle.output_commit.specs.Batches.{commands_in, fits, merged}
use Rattle.output_commit.specs.Commit.{AreHeld, Commit, IsInOrder, first, batch_of, commands, visible, acknowledged, with_output, after_release}
use Rattle.output_commit.specs.Laws.{Call, HoldsFitting, after_call, after_calls, changes_in, changes_of, one_if_any, versions_in, versions_of, IsKeptInOrder, IsSeenFromThenOn, StaysSent}
use Rattle.output_commit.specs.Laws.Call.{hold, send, apply, acknowledge, release}
use Rattle.output_commit.proofs.MergedBatches.{is_merged, merged_held, push_changes, push_commands, push_held, push_take, push_versions}
use Rattle.output_commit.proofs.VisibleVersions.{visible_front, visible_more}
use Rattle.std.proofs.lemmas.List.{length-append}

-- the counts stay in order, what is seen only rises, what was sent stays, and these changes come in
record Advances (c c' : Commit) (added : List Update) (outputs : ℕ) : Type 0 where
  in_order : IsInOrder c'
  rises : visible c ≤ visible c'
  sent : c.sent ≤ c'.sent
  stays : (m : ℕ) → m ≤ c.sent → take m (commands c') ≡ take m (commands c)
  changes : changes_in c'.batches ≡ changes_in c.batches ++ added
  versions : versions_in c'.batches ≡ versions_in c.batches + outputs

-- more commands are applied or acknowledged, or other outputs wait
counts_on : (c : Commit) (done acked : ℕ) (held : List Output) → IsInOrder c → c.done ≤ done → done ≤ c.sent → acked ≤ done
    → Advances c (record c { done = done; acked = acked; held = held }) [] 0
counts_on c done acked held i later within known = record {
  in_order = record { acked_within = known; done_within = within; sent_within = i.sent_within };
  rises = visible_more c.batches c.done done later;
  sent = omega arith;
  stays = λ m h. refl;
  changes = sym (append-nil (changes_in c.batches));
  versions = omega arith;
}

stays_so : (c : Commit) → IsInOrder c → Advances c c [] 0
stays_so c i = counts_on c c.done c.acked c.held i (omega arith) i.done_within i.acked_within

pub changes_one : (us : List Update) → changes_in (batch_of us) ≡ us
changes_one [] = refl
changes_one (u ∷ us) = append-nil (u ∷ us)

versions_one : (us : List Update) → versions_in (batch_of us) ≡ one_if_any us
versions_one [] = refl
versions_one (u ∷ us) = omega arith

held_on : (c : Commit) (output : Output) (us : List Update) → IsInOrder c → Advances c (with_output c output us) us (one_if_any us)
held_on c output us i =
    let within = i.sent_within in let less = i.done_within in
    let longer = ap length (push_commands c.batches (batch_of us)) in
    let more = length-append (commands_in c.batches) (commands_in (batch_of us)) in
    let same = visible_front c.batches (batch_of us) c.done (omega arith) in
    record {
      in_order = record { acked_within = i.acked_within; done_within = i.done_within; sent_within = omega arith };
      rises = omega arith;
      sent = omega arith;
      stays = λ m h. push_take c.batches (batch_of us) m (omega arith);
      changes = push_changes c.batches (batch_of us) ∙ ap (λ l. changes_in c.batches ++ l) (changes_one us);
      versions = push_versions c.batches (batch_of us) ∙ ap (λ n. versions_in c.batches + n) (versions_one us);
    }

sent_on : (c : Commit) (b : Bool) → nat_lt c.sent (length (commands c)) ≡ b → IsInOrder c
    → Advances c (cond b (record c { batches = merged (fits c.writeback) c.sent c.batches; sent = c.sent + 1 }) c) [] 0
sent_on c true e i =
    let m = is_merged (fits c.writeback) c.sent c.batches in
    let goes = m.goes_on (ltb-true c.sent (length (commands c)) e) in
    let same = m.shows c.done i.done_within in
    let less = i.done_within in
    record {
      in_order = record { acked_within = i.acked_within; done_within = omega arith; sent_within = omega arith };
      rises = omega arith;
      sent = omega arith;
      stays = m.stays;
      changes = m.changes ∙ sym (append-nil (changes_in c.batches));
      versions = let v = m.versions in omega arith;
    }
sent_on c false e i = stays_so c i

applied_on : (c : Commit) (b : Bool) → nat_lt c.done c.sent ≡ b → IsInOrder c → Advances c (cond b (record c { done = c.done + 1 }) c) [] 0
applied_on c true e i =
    let there = ltb-true c.done c.sent e in let less = i.acked_within in
    counts_on c (c.done + 1) c.acked c.held i (omega arith) (omega arith) (omega arith)
applied_on c false e i = stays_so c i

acknowledged_on : (c : Commit) (b : Bool) → nat_lt c.acked c.done ≡ b → IsInOrder c → Advances c (cond b (record c { acked = c.acked + 1 }) c) [] 0
acknowledged_on c true e i =
    let there = ltb-true c.acked c.done e in
    counts_on c c.done (c.acked + 1) c.held i (omega arith) i.done_within (omega arith)
acknowledged_on c false e i = stays_so c i

released_on : (c : Commit) (j : ℕ) (output : Option Output) → IsInOrder c → Advances c (after_release c j output) [] 0
released_on c j None i = stays_so c i
released_on c j (Some output) i = waits_or_goes (nat_lt (acknowledged c) output.need)
  where
    waits_or_goes : (b : Bool) → Advances c (cond b c (record c { held = remove c.held j })) [] 0
    waits_or_goes true = stays_so c i
    waits_or_goes false = counts_on c c.done c.acked (remove c.held j) i (omega arith) i.done_within i.acked_within

one_call : (c : Commit) (call : Call) → IsInOrder c → Advances c (after_call c call) (changes_of (call ∷ [])) (versions_of (call ∷ []))
one_call c (hold output us) i = let h = held_on c output us i in record {
  in_order = h.in_order;
  rises = h.rises;
  sent = h.sent;
  stays = h.stays;
  changes = h.changes ∙ ap (λ l. changes_in c.batches ++ l) (sym (append-nil us));
  versions = let v = h.versions in omega arith;
}
one_call c send i = sent_on c _ refl i
one_call c apply i = applied_on c _ refl i
one_call c acknowledge i = acknowledged_on c _ refl i
one_call c (release j) i = released_on c j (slice_get c.held j) i

changes_by : (call : Call) (calls : List Call) → changes_of (call ∷ calls) ≡ changes_of (call ∷ []) ++ changes_of calls
changes_by (hold output us) calls = ap (λ l. l ++ changes_of calls) (sym (append-nil us))
changes_by _ calls = refl

versions_by : (call : Call) (calls : List Call) → versions_of (call ∷ calls) ≡ versions_of (call ∷ []) + versions_of calls
versions_by (hold output us) calls = omega arith
versions_by _ calls = omega arith

all_calls : (c : Commit) (calls : List Call) → IsInOrder c → Advances c (after_calls c calls) (changes_of calls) (versions_of calls)
all_calls c [] i = stays_so c i
all_calls c (call ∷ calls) i =
    let one = one_call c call i in
    let rest = all_calls (after_call c call) calls one.in_order in
    let first_sent = one.sent in let then_sent = rest.sent in
    let first_rises = one.rises in let then_rises = rest.rises in
    record {
      in_order = rest.in_order;
      rises = omega arith;
      sent = omega arith;
      stays = λ m h. rest.stays m (omega arith) ∙ one.stays m h;
      changes = rest.changes ∙ ap (λ l. l ++ changes_of calls) one.changes
          ∙ append_assoc (changes_in c.batches) (changes_of (call ∷ [])) (changes_of calls)
          ∙ ap (λ l. changes_in c.batches ++ l) (sym (changes_by call calls));
      versions = let a = one.versions in let b = rest.versions in let v = versions_by call calls in omega arith;
    }

none_yet : (writeback : ℕ) → IsInOrder (first writeback)
none_yet writeback = record { acked_within = omega arith; done_within = omega arith; sent_within = omega arith }

pub kept_in_order : (writeback : ℕ) (calls : List Call) → IsKeptInOrder writeback calls
kept_in_order writeback calls =
    let c = after_calls (first writeback) calls in
    let on = all_calls (first writeback) calls (none_yet writeback) in
    record {
      in_order = on.in_order;
      known = visible_more c.batches c.acked c.done on.in_order.acked_within;
      changes = on.changes;
      versions = let v = on.versions in omega arith;
    }

pub stays_sent : (writeback : ℕ) (calls more : List Call) → StaysSent (after_calls (first writeback) calls) more
stays_sent writeback calls more =
    let c = after_calls (first writeback) calls in
    let on = all_calls c more (kept_in_order writeback calls).in_order in
    record { sent = on.sent; commands = on.stays c.sent (omega arith) }

-- an output that goes needs no more than what is known to be seen
goes : (b : Bool) (need known number : ℕ) (frame : List ℕ) → nat_lt known need ≡ b → cond b (NotYet need known) (Frame number frame) ≡ Frame number frame → need ≤ known
goes true need known number frame e h = cc
goes false need known number frame e h = ltb-false known need e

pub seen_from_then_on : (writeback : ℕ) (calls more : List Call) (j : ℕ) (output : Output) → IsSeenFromThenOn writeback calls more j output
seen_from_then_on writeback calls more j output there answered =
    let c = after_calls (first writeback) calls in
    let kept = kept_in_order writeback calls in
    let on = all_calls c more kept.in_order in
    let low = goes _ output.need (acknowledged c) output.number output.frame refl answered in
    let known = kept.known in
    let rises = on.rises in
    omega arith

-- ## What the write-back tables hold

batch_held : (room : ℕ) (us : List Update) → fits room us ≡ true → AreHeld room (batch_of us)
batch_held room [] h = tt
batch_held room (u ∷ us) h = (h, tt)

-- the same limit, and batches that are held
abbrev Holds : ℕ → Commit → Type 0
Holds room c = (c.writeback ≡ room) × AreHeld room c.batches

sent_holds : (room : ℕ) (c : Commit) (b : Bool) → Holds room c
    → Holds room (cond b (record c { batches = merged (fits c.writeback) c.sent c.batches; sent = c.sent + 1 }) c)
sent_holds room c true h = (h.0, subst (λ r. AreHeld room (merged (fits r) c.sent c.batches)) (sym h.0) (merged_held room c.sent c.batches h.1))
sent_holds room c false h = h

-- where one of two is the case
either_holds : (room : ℕ) (c other : Commit) (b : Bool) → Holds room c → Holds room other → Holds room (cond b other c)
either_holds room c other true h k = k
either_holds room c other false h k = h

gone_holds : (room : ℕ) (c : Commit) (j : ℕ) (output : Option Output) → Holds room c → Holds room (after_release c j output)
gone_holds room c j None h = h
gone_holds room c j (Some output) h = either_holds room (record c { held = remove c.held j }) c (nat_lt (acknowledged c) output.need) h h

all_hold : (room : ℕ) (c : Commit) (calls : List Call) → Holds room c → HoldsFitting room calls → Holds room (after_calls c calls)
all_hold room c [] h fit = h
all_hold room c (hold output us ∷ calls) h fit = all_hold room (with_output c output us) calls
    (h.0, push_held room c.batches (batch_of us) h.1 (batch_held room us fit.0)) fit.1
all_hold room c (send ∷ calls) h fit = all_hold room (after_call c send) calls (sent_holds room c (nat_lt c.sent (length (commands c))) h) fit
all_hold room c (apply ∷ calls) h fit = all_hold room (after_call c apply) calls (either_holds room c (record c { done = c.done + 1 }) (nat_lt c.done c.sent) h h) fit
all_hold room c (acknowledge ∷ calls) h fit = all_hold room (after_call c acknowledge) calls (either_holds room c (record c { acked = c.acked + 1 }) (nat_lt c.acked c.done) h h) fit
all_hold room c (release j ∷ calls) h fit = all_hold room (after_call c (release j)) calls (gone_holds room c j (slice_get c.held j) h) fit

pub each_held : (writeback : ℕ) (calls : List Call) → HoldsFitting writeback calls → AreHeld writeback (after_calls (first writeback) calls).batches
each_held writeback calls fit = (all_hold writeback (first writeback) calls (refl, tt) fit).1
