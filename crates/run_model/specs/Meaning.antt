-- What a program does to packets, which go by their numbers, and serial runs of it.
use Rattle.std.specs.Prelude.{◌≡◌, ◌<◌, ℕ, List, [], ◌∷◌, get_or}
use Rattle.packet_fields.specs.declared.packet.Packet.{Packet}
use Rattle.packet_fields.specs.declared.verdict.Verdict.{Verdict}
use Rattle.state_store.specs.declared.object.ObjectDecl.{ObjectDecl}
use Rattle.state_store.specs.Kept.{IsKept}
use Rattle.state_store.specs.Store.{Store, start_store}

-- the packet of a number; where there is none, one of no bytes
abbrev pub packet_at : List Packet → ℕ → Packet
packet_at packets n = get_or packets n (record { port = 0; bytes = [] })

-- the declared objects, and the run of a packet from a store: the store that it leaves, and its verdict
pub record Meaning : Type 0 where
  pub objects : List ObjectDecl
  pub after : Store → ℕ → Store
  pub verdict : Store → ℕ → Verdict

-- the store that is left when packets run one after the other
abbrev pub serial_store : Meaning → Store → List ℕ → Store
serial_store m store [] = store
serial_store m store (n ∷ ns) = serial_store m (m.after store n) ns

-- and the verdict of each
abbrev pub serial_verdicts : Meaning → Store → List ℕ → List Verdict
serial_verdicts m store [] = []
serial_verdicts m store (n ∷ ns) = m.verdict store n ∷ serial_verdicts m (m.after store n) ns

-- Two programs mean the same over the first so many packets: they have the same objects, and from each store that keeps
-- what was declared they leave the same store, which keeps it too, and give the same verdict.
pub record AreAlike (m n : Meaning) (total : ℕ) : Type 0 where
  pub objects : m.objects ≡ n.objects
  pub start : IsKept m.objects (start_store m.objects)
  pub after : (store : Store) (p : ℕ) → IsKept m.objects store → p < total → m.after store p ≡ n.after store p
  pub kept : (store : Store) (p : ℕ) → IsKept m.objects store → p < total → IsKept m.objects (m.after store p)
  pub verdict : (store : Store) (p : ℕ) → IsKept m.objects store → p < total → m.verdict store p ≡ n.verdict store p
