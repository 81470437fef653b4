-- How many items and datagrams a link has behind a step more.
use Rattle.std.proofs.Common.{◌≡◌, ◌≤◌, ◌+◌, ℕ, true, false, cond, List, [], ◌∷◌, ◌++◌, length, refl, ap, Some, None, arith}
use Rattle.std.specs.Prelude.{Option, slice_get}
use Rattle.std.proofs.lemmas.List.{length-map, length_push}
use Rattle.lossy_link.specs.declared.receiver.Delivered.{Delivered}
use Rattle.lossy_link.specs.Link.{Link, arrive, is_due, link_step, with_arrived}
use Rattle.lossy_replay.specs.Linked.{Linked}
use Rattle.lossy_replay.specs.Linking.{AreLinks, HasFew}
use Rattle.lossy_replay.specs.Lines.{link_of}
use Rattle.lossy_replay.specs.Ways.{IsWay}
use Rattle.lossy_replay.specs.declared.line.Line.{Line}
use Rattle.lossy_replay.specs.declared.links.Links.{Links}
use Rattle.lossy_replay.specs.declared.way.Way.{Way}
use Rattle.lossy_link.proofs.Faithful.{arrived_items}
use Rattle.lossy_replay.proofs.GoingOn.{few_more, ways_on}

-- how many were delivered, by the link
got_count : (line : Line) → length (link_of line).got ≡ length line.receiver.pairs
got_count line = length-map line.receiver.pairs (λ (p : Delivered). p.number)

got_more : (l : Link) (o : Option ℕ) → length (with_arrived l o).got ≤ length l.got + 1
got_more l None = omega arith
got_more l (Some n) =
    elim (is_due l n) as (λ b. length (cond b (l.got ++ n ∷ []) l.got) ≤ length l.got + 1) [
      | true ↦ omega (arith, length_push l.got n)
      | false ↦ omega arith
    ]

arrived_sent : (l : Link) (o : Option ℕ) → (with_arrived l o).sent ≡ l.sent
arrived_sent l None = refl
arrived_sent l (Some n) = refl

-- a datagram arrives on a link
few_arrived : (n j : ℕ) (l : Link) (old new : Line) → HasFew n old → link_of old ≡ l → link_of new ≡ link_step l (arrive j) → HasFew (n + 1) new
few_arrived n j l old new few was is =
    let o = slice_get l.sent j in
    record {
      items = omega (arith, few.items, ap (λ (m : Link). length m.items) was, ap (λ (m : Link). length m.items) is, ap (λ (xs : List (List ℕ)). length xs) (arrived_items l o));
      sent = omega (arith, few.sent, ap (λ (m : Link). length m.sent) was, ap (λ (m : Link). length m.sent) is, ap (λ (ns : List ℕ). length ns) (arrived_sent l o));
      got = omega (arith, few.got, got_count old, got_count new, ap (λ (m : Link). length m.got) was, ap (λ (m : Link). length m.got) is, got_more l o);
    }

pub up_arrived : (n j : ℕ) (l : Linked) (links : Links) (up : Way) → AreLinks n l links → IsWay (link_step l.up (arrive j)) l.ran up
    → AreLinks (n + 1) (record l { up = link_step l.up (arrive j) }) (record links { up = up })
up_arrived n j l links up are is =
    ways_on n (n + 1) l (record l { up = link_step l.up (arrive j) }) links up links.down are (omega arith) refl refl is are.down
    (few_arrived n j l.up links.up.line up.line are.few_up are.up.link is.link) (few_more n (n + 1) links.down.line (omega arith) are.few_down)

pub down_arrived : (n j : ℕ) (l : Linked) (links : Links) (down : Way) → AreLinks n l links → IsWay (link_step l.down (arrive j)) l.taken down
    → AreLinks (n + 1) (record l { down = link_step l.down (arrive j) }) (record links { down = down })
down_arrived n j l links down are is =
    ways_on n (n + 1) l (record l { down = link_step l.down (arrive j) }) links links.up down are (omega arith) refl refl are.up is
    (few_more n (n + 1) links.up.line (omega arith) are.few_up) (few_arrived n j l.down links.down.line down.line are.few_down are.down.link is.link)
