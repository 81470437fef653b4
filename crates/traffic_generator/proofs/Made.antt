-- Packets that are made one after the other.
use Rattle.std.proofs.Common.{◌≡◌, ℕ, ◌+◌, List, [], ◌∷◌, ◌++◌, length, sym, ap, ◌∙◌, arith}
use Rattle.std.proofs.lemmas.List.FromFn.{length-map-range_with_len, map-range_with_len_more}
use Rattle.packet_fields.specs.declared.packet.Packet.{Packet}
use Rattle.traffic_generator.specs.Packets.{packet_of, packets_of}

pub next_made : (seed n : ℕ) (before after : List Packet) (packet : Packet) → before ≡ packets_of seed n
    → packet ≡ packet_of seed n → after ≡ before ++ packet ∷ [] → after ≡ packets_of seed (n + 1)
next_made seed n before after packet so_far is one_more =
    let here : 0 + n ≡ n = omega arith in
    one_more ∙ ap (λ (ps : List Packet). ps ++ packet ∷ []) so_far
    ∙ ap (λ (p : Packet). packets_of seed n ++ p ∷ []) is
    ∙ sym (map-range_with_len_more (packet_of seed) 0 n n here)

pub length-made : (seed n count : ℕ) (packets : List Packet) → packets ≡ packets_of seed n → n ≡ count
    → length packets ≡ count
length-made seed n count packets is all =
    ap (λ (ps : List Packet). length ps) is ∙ length-map-range_with_len (packet_of seed) 0 n ∙ all
