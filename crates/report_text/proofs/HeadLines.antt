-- The first lines of a report, printed and read.
use Rattle.std.proofs.Common.{◌≡◌, ℕ, ◌≤◌, List, [], ◌++◌, Some, refl, subst, arith}
use Rattle.std.specs.Prelude.{codes}
use Rattle.std.specs.Fmt.{decimal}
use Rattle.run_text.specs.Trace.{largest}
use Rattle.report_text.specs.declared.head.PacketCounts.{PacketCounts}
use Rattle.report_text.specs.declared.head.EventCounts.{EventCounts}
use Rattle.report_text.specs.declared.head.Versions.{Versions}
use Rattle.report_text.specs.Parse.{counts_of, events_of, versions_of}
use Rattle.report_text.proofs.Pieces.{labelled_back, whole_is, numbered, IsTextOf}

abbrev pub counts_text : PacketCounts → List ℕ
counts_text c =
    codes "packets " ++ (decimal c.total ++ (codes " admitted " ++ (decimal c.admitted
    ++ (codes " decided " ++ (decimal c.decided ++ (codes " released " ++ (decimal c.released ++ [])))))))

pub record AreCounts (c : PacketCounts) : Type 0 where
  pub total : c.total ≤ largest
  pub admitted : c.admitted ≤ largest
  pub decided : c.decided ≤ largest
  pub released : c.released ≤ largest

pub counts_back : (c : PacketCounts) → AreCounts c → counts_of (counts_text c) ≡ Some c
unfolding counts_of
counts_back c h =
    let r4 : List ℕ = [] in
    let r3 = codes " released " ++ (decimal c.released ++ r4) in
    let r2 = codes " decided " ++ (decimal c.decided ++ r3) in
    let r1 = codes " admitted " ++ (decimal c.admitted ++ r2) in
    rw (
      labelled_back largest c.total (codes "packets ") r1 h.total (omega arith) refl,
      labelled_back largest c.admitted (codes " admitted ") r2 h.admitted (omega arith) refl,
      labelled_back largest c.decided (codes " decided ") r3 h.decided (omega arith) refl,
      labelled_back largest c.released (codes " released ") r4 h.released (omega arith) refl,
    ) refl

pub counts_is : (line : List ℕ) (c : PacketCounts) → counts_of line ≡ Some c → IsTextOf AreCounts counts_text line c
unfolding counts_of
counts_is line c h =
    numbered largest (codes "packets ") line _ c (omega arith) h (λ t total et ht.
    numbered largest (codes " admitted ") t.1 _ c (omega arith) ht (λ a admitted ea ha.
    numbered largest (codes " decided ") a.1 _ c (omega arith) ha (λ d decided ed hd.
    numbered largest (codes " released ") d.1 _ c (omega arith) hd (λ r released er hr.
    let end = whole_is _ c r.1 hr in
    subst (IsTextOf AreCounts counts_text line) end.1 (record {
      are = record { total = total; admitted = admitted; decided = decided; released = released };
      is = rw (et, ea, ed, er, end.0) refl;
    })))))

abbrev pub events_text : EventCounts → List ℕ
events_text e = codes "events " ++ (decimal e.events ++ (codes " idle " ++ (decimal e.idle ++ [])))

pub record AreEvents (e : EventCounts) : Type 0 where
  pub events : e.events ≤ largest
  pub idle : e.idle ≤ largest

pub events_back : (e : EventCounts) → AreEvents e → events_of (events_text e) ≡ Some e
unfolding events_of
events_back e h =
    rw (
      labelled_back largest e.events (codes "events ") (codes " idle " ++ (decimal e.idle ++ [])) h.events (omega arith) refl,
      labelled_back largest e.idle (codes " idle ") [] h.idle (omega arith) refl,
    ) refl

pub events_is : (line : List ℕ) (e : EventCounts) → events_of line ≡ Some e → IsTextOf AreEvents events_text line e
unfolding events_of
events_is line e h =
    numbered largest (codes "events ") line _ e (omega arith) h (λ t events et ht.
    numbered largest (codes " idle ") t.1 _ e (omega arith) ht (λ a idle ea ha.
    let end = whole_is _ e a.1 ha in
    subst (IsTextOf AreEvents events_text line) end.1 (record { are = record { events = events; idle = idle }; is = rw (et, ea, end.0) refl })))

abbrev pub versions_text : Versions → List ℕ
versions_text v = codes "version " ++ (decimal v.version ++ (codes " visible " ++ (decimal v.visible ++ [])))

pub record AreVersions (v : Versions) : Type 0 where
  pub version : v.version ≤ largest
  pub visible : v.visible ≤ largest

pub versions_back : (v : Versions) → AreVersions v → versions_of (versions_text v) ≡ Some v
unfolding versions_of
versions_back v h =
    rw (
      labelled_back largest v.version (codes "version ") (codes " visible " ++ (decimal v.visible ++ [])) h.version (omega arith) refl,
      labelled_back largest v.visible (codes " visible ") [] h.visible (omega arith) refl,
    ) refl

pub versions_is : (line : List ℕ) (v : Versions) → versions_of line ≡ Some v → IsTextOf AreVersions versions_text line v
unfolding versions_of
versions_is line v h =
    numbered largest (codes "version ") line _ v (omega arith) h (λ t version et ht.
    numbered largest (codes " visible ") t.1 _ v (omega arith) ht (λ a visible ea ha.
    let end = whole_is _ v a.1 ha in
    subst (IsTextOf AreVersions versions_text line) end.1 (record { are = record { version = version; visible = visible }; is = rw (et, ea, end.0) refl })))
