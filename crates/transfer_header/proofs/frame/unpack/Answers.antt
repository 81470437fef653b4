use Rattle.std.proofs.Common.{◌≡◌, ◌+◌, ◌-◌, ◌/◌, ◌<◌, ℕ, List, take, drop, length-drop, slice_index_or, sym, refl, ◌∙◌, arith}
use Rattle.std.proofs.lemmas.Bool.{true≢false}
use Rattle.std.proofs.lemmas.List.Elements.{All-from_get_or, All-take, All-drop}
use Rattle.split_model.specs.declared.layout.Crossing.{Crossing}
use Rattle.transfer_header.specs.Bits.{bytes_for, packed}
use Rattle.transfer_header.specs.Values.{total, value_bits}
use Rattle.transfer_header.specs.Registers.{value_in}
use Rattle.transfer_header.specs.Frames.{IsFrame}
use Rattle.transfer_header.proofs.BitLists.{AreBytes}
use Rattle.transfer_header.proofs.LayoutInRegisters.{length_fitting}
use Rattle.transfer_header.proofs.WholeFrames.{header_is, frame_is, outline, zeros_behind, not_filled, is_filled_at, range_is, length_range, read_back, a_frame}
use Rattle.transfer_header.proofs.frame.unpack.Goals as goal
use Rattle.transfer_header.proofs.frame.unpack.Goals.{then-frame-packet_at-via-then-frame-packet_at, then-frame-packet_at-via-else-frame-packet_at+then-frame-packet_at-gt-MAX_PACKET_BYTES, then-frame-packet_at-via-else-frame-packet_at+else-frame-packet_at-gt-MAX_PACKET_BYTES+then-frame-kind}

-- each value has a register of its own
pub prove-unreachable-requires : goal.prove-unreachable-requires
prove-unreachable-requires c = omega (arith, length_fitting c.args.layout.now c.args.into.now c.len-2.ensures.placed c.requires)

-- ---- too short, too long, or of another kind
pub returns-then-frame-packet_at-clause-exact : goal.returns-then-frame-packet_at-clause-exact
returns-then-frame-packet_at-clause-exact c = (λ no. absurd (true≢false (sym no)), λ is. absurd (refused c.total_bits-bits.ensures.value is))
  where
    refused : c.total_bits-bits.result ≡ total c.args.layout.now → IsFrame c.args.kind c.args.layout.now c.args.frame.now → ⊥
    refused same is =
        let facts = outline c.args.kind c.args.layout.now c.args.frame.now is in
        elim c.then-frame-packet_at.branch [
          | then-frame-packet_at-via-then-frame-packet_at w ↦ omega (arith, facts.0, w.if-frame-packet_at.true)
          | then-frame-packet_at-via-else-frame-packet_at+then-frame-packet_at-gt-MAX_PACKET_BYTES w ↦ omega (arith, facts.1, w.if-frame-packet_at-gt-MAX_PACKET_BYTES.true)
          | then-frame-packet_at-via-else-frame-packet_at+else-frame-packet_at-gt-MAX_PACKET_BYTES+then-frame-kind w ↦ w.if-frame-kind.true facts.2
        ]

pub returns-then-frame-packet_at-clause-read_back : goal.returns-then-frame-packet_at-clause-read_back
returns-then-frame-packet_at-clause-read_back c number port values packet is =
    absurd (true≢false (sym ((returns-then-frame-packet_at-clause-exact c).1 (a_frame c.args.kind c.args.layout.now number port values packet c.args.frame.now is))))

-- ---- a bit in the filling
pub returns-then-not-is_filled-clause-exact : goal.returns-then-not-is_filled-clause-exact
returns-then-not-is_filled-clause-exact c = (λ no. absurd (true≢false (sym no)), λ is. absurd (refused is))
  where
    refused : IsFrame c.args.kind c.args.layout.now c.args.frame.now → ⊥
    refused is =
        let frame = c.args.frame.now in
        let bits : ℕ = c.total_bits-bits.result in
        let header : List ℕ = take (6 + (bits + 7) / 8 - 6) (drop 6 frame) in
        not_filled header bits (total c.args.layout.now) c.is_filled.result c.total_bits-bits.ensures.value c.if-not-is_filled.true c.is_filled.ensures.1
        (zeros_behind c.args.kind c.args.layout.now frame header (range_is frame bits (total c.args.layout.now) c.total_bits-bits.ensures.value) is)

pub returns-then-not-is_filled-clause-read_back : goal.returns-then-not-is_filled-clause-read_back
returns-then-not-is_filled-clause-read_back c number port values packet is =
    absurd (true≢false (sym ((returns-then-not-is_filled-clause-exact c).1 (a_frame c.args.kind c.args.layout.now number port values packet c.args.frame.now is))))

-- ---- a frame
pub returns-clause-ok : goal.returns-clause-ok
returns-clause-ok c =
    let frame = c.args.frame.now in
    let layout = c.args.layout.now in
    let bits : ℕ = c.total_bits-bits.result in
    let same : bits ≡ total layout = c.total_bits-bits.ensures.value in
    let values : Crossing → ℕ = value_in c.unpack_values.new.into in
    let header : List ℕ = take (6 + (bits + 7) / 8 - 6) (drop 6 frame) in
    let part : header ≡ take (bytes_for (total layout)) (drop 6 frame) = range_is frame bits (total layout) same in
    let are : AreBytes frame = All-from_get_or (λ byte. byte < 256) frame 0 (λ i below. omega (arith, c.type_inv.frame i)) in
    let are_header : AreBytes header = All-take (λ byte. byte < 256) (6 + (bits + 7) / 8 - 6) (drop 6 frame) (All-drop (λ byte. byte < 256) 6 frame are) in
    let whole : header ≡ packed (value_bits layout values) =
    header_is layout header values are_header (length_range frame bits (total layout) same c.if-frame-packet_at.false) c.unpack_values.ensures.bits
    (is_filled_at header bits (total layout) c.is_filled.result same c.if-not-is_filled.false c.is_filled.ensures.0) in
    record {
      is = record {
        bytes = frame_is c.args.kind layout frame c.from_be_bytes.result (6 + (bits + 7) / 8) values are (omega (arith, same)) c.if-frame-packet_at.false
            c.if-frame-kind.false c.from_be_bytes.ensures (sym part ∙ whole);
        four_bytes = omega (arith, c.from_be_bytes.type_inv);
        one_byte = omega (arith, c.type_inv.frame 5);
        narrow = c.unpack_values.ensures.narrow;
        short = omega (arith, c.if-frame-packet_at-gt-MAX_PACKET_BYTES.false, length-drop (6 + (bits + 7) / 8) frame);
      };
      place = omega (arith, same);
      within = omega (arith, c.if-frame-packet_at.false);
      kept = c.unpack_values.ensures.kept;
    }

pub returns-clause-exact : goal.returns-clause-exact
returns-clause-exact c = (
  λ yes. a_frame c.args.kind c.args.layout.now c.from_be_bytes.result (slice_index_or c.args.frame.now 5 0) (value_in c.unpack_values.new.into) (drop (6 + (c.total_bits-bits.result + 7) / 8) c.args.frame.now) c.args.frame.now (returns-clause-ok c).is,
  λ is. refl,
)

pub returns-clause-read_back : goal.returns-clause-read_back
returns-clause-read_back c number port values packet =
    read_back c.args.kind c.args.layout.now number port values packet c.args.frame.now c.args.into.now c.unpack_values.new.into (record { number = c.from_be_bytes.result; port = slice_index_or c.args.frame.now 5 0; packet_at = 6 + (c.total_bits-bits.result + 7) / 8 }) (returns-clause-ok c)
