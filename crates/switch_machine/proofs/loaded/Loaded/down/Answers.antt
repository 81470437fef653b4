use Rattle.std.proofs.Common.{◌≡◌, ◌∙◌, ◌-◌, ℕ, List, Result, Ok, Err, OnErr, ap, drop, length, length-drop, refl, subst, sym, take}
use Rattle.packet_fields.specs.declared.packet.Packet.{Packet}
use Rattle.flat_ir.specs.Blocks.{Reading}
use Rattle.transfer_header.specs.Registers.{value_in}
use Rattle.switch_ir.specs.Code.{code_of}
use Rattle.switch_ir.specs.Meaning.{down_given}
use Rattle.switch_ir.specs.UnderWay.{Passes}
use Rattle.switch_machine.specs.declared.sides.Side.{Side}
use Rattle.switch_machine.specs.declared.sides.Side.TheVariants.{Behind}
use Rattle.switch_machine.specs.UnderWay.{passes_of, Enters}
use Rattle.switch_machine.proofs.LoadedCode.{both_stay, passes_stay, made_stays, pass_is, pass_stays}
use Rattle.switch_machine.proofs.PostReads.{given_same}
use Rattle.std.proofs.Math.Seq.{take-length}
use Rattle.switch_machine.proofs.loaded.Loaded.down.Goals as goal

-- a slice up to the end
whole_rest : {X : Type 0} (n : ℕ) (xs : List X) → take (length xs - n) (drop n xs) ≡ drop n xs
whole_rest n xs = ap (λ k. take k (drop n xs)) (sym (length-drop n xs)) ∙ take-length (drop n xs)

on_err : {X E : Type 0} (P : Type 0) (r : Result X E) → P → OnErr r P
on_err P (Ok x) p = tt
on_err P (Err e) p = p

pub unpack-head-requires : goal.unpack-head-requires
unpack-head-requires c =
    let l = c.args.self.now in
    record { pass = pass_is Behind l; side = l.post.side_is; frame = c.requires.frame }

pub give-requires-clause-pass : goal.give-requires-clause-pass
give-requires-clause-pass c = pass_stays (code_of c.args.self.now.code) c.unpack-head.ensures.made (pass_is Behind c.args.self.now)

pub give-requires-clause-side : goal.give-requires-clause-side
give-requires-clause-side c = c.unpack-head.ensures.made.side ∙ c.args.self.now.post.side_is

pub give-requires-clause-planned : goal.give-requires-clause-planned
give-requires-clause-planned c = c.unpack-head.ensures.made.plan ∙ c.args.self.now.post.planned

pub give-requires-clause-given : goal.give-requires-clause-given
give-requires-clause-given c = rw c.unpack-head.ensures.made.ranges c.args.self.now.given_stage

pub begin-requires-clause-pass : goal.begin-requires-clause-pass
begin-requires-clause-pass c =
    pass_stays (code_of c.args.self.now.code) (both_stay c.unpack-head.ensures.made c.give.ensures.made) (pass_is Behind c.args.self.now)

pub returns-clause-stays : goal.returns-clause-stays
returns-clause-stays c = record { code = refl; other = refl }

pub returns-clause-number : goal.returns-clause-number
returns-clause-number c number port values packet framed = (c.unpack-head.ensures.read_back number port values packet framed).same_number

pub returns-clause-enters : goal.returns-clause-enters
returns-clause-enters c number port values packet framed =
    let l = c.args.self.now in
    let code = code_of l.code in
    let frame = c.args.frame.now in
    let head = c.unpack-head.result in
    let had = value_in c.unpack-head.new.self.registers in
    let made = both_stay c.unpack-head.ensures.made c.give.ensures.made in
    let stays = passes_stay code made (c.give.ensures.active ∙ c.unpack-head.ensures.active) in
    let side = made.side ∙ l.post.side_is in
    let same = c.unpack-head.ensures.read_back number port values packet framed in
    let arrived : Packet = record { port = head.port; bytes = take (length frame - head.packet_at) (drop head.packet_at frame) } in
    let its : Packet = record { port = port; bytes = packet } in
    let packet_is : arrived ≡ its = λ i. record { port = same.same_port i; bytes = (whole_rest head.packet_at frame ∙ same.same_packet) i } in
    let given_is : down_given code had arrived ≡ down_given code values its =
    given_same code had values arrived same.same_values ∙ ap (down_given code values) packet_is in
    let Is : Side × Passes × ℕ × Packet × Reading → Type 0 =
    λ (s, ps, n, q, g). Enters s code c.args.tables.now c.args.whole n q g c.in_ok-end.end ps (passes_of code c.begin.new.self) in
    subst Is (λ i. (side i, stays i, same.same_number i, packet_is i, given_is i)) (c.in_ok-end.ensures.enters (down_given code had arrived) c.give.ensures.given)

pub returns-in_err-end-clause-err : goal.returns-in_err-end-clause-err
returns-in_err-end-clause-err c =
    on_err _ c.from_residual.result
    (c.in_err-end.ensures.err
    ∙ passes_stay (code_of c.args.self.now.code) (both_stay c.unpack-head.ensures.made c.give.ensures.made) (c.give.ensures.active ∙ c.unpack-head.ensures.active))

pub returns-clause-side : goal.returns-clause-side
returns-clause-side c =
    let entered = c.in_ok-end.ensures.enters _ c.give.ensures.given in
    rw (c.give.ensures.made.side ∙ c.unpack-head.ensures.made.side ∙ c.args.self.now.post.side_is) at entered.ends.of

pub invariant_of-self : goal.invariant_of-self
invariant_of-self c =
    let l = c.args.self.now in
    let made = both_stay (both_stay c.unpack-head.ensures.made c.give.ensures.made) c.begin.ensures.made in
    record {
      can = l.can;
      few = l.few;
      ordered = l.ordered;
      pre = l.pre;
      post = made_stays Behind (code_of l.code) l.code.post.plan made l.post;
      given_stage = rw made.ranges l.given_stage;
    }
