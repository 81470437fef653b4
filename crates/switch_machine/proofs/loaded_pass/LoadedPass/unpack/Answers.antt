use Rattle.std.proofs.Common.{◌≡◌, IfOk, OnErr, Result, Ok, Err, ap, length}
use Rattle.transfer_header.specs.Frames.{IsUnpacked}
use Rattle.transfer_header.specs.Registers.{Registers}
use Rattle.transfer_header.specs.declared.frame.Head.{Head}
use Rattle.switch_ir.specs.Code.{code_of}
use Rattle.switch_machine.proofs.Laws.{what_comes_down_fits}
use Rattle.switch_machine.proofs.loaded_pass.LoadedPass.unpack.Goals as goal

-- what holds either way
either_way : {X E : Type 0} (P : X → Type 0) (Q R : Type 0) (r : Result X E) → IfOk r P → OnErr r Q → ((x : X) → P x → R) → (Q → R) → R
either_way P Q R (Ok x) h k go come = go x h
either_way P Q R (Err e) h k go come = come k

pub unpack_down-requires : goal.unpack_down-requires
unpack_down-requires c =
    what_comes_down_fits (code_of c.args.code.now) c.args.self.now c.requires.pass c.clear.new.self.registers c.clear.ensures.made.plan c.requires.side

pub invariant_of-self-clause-are_active : goal.invariant_of-self-clause-are_active
invariant_of-self-clause-are_active c =
    let cleared = c.clear.new.self in
    let before = cleared.registers in
    let after = c.unpack_down.new.into in
    let count : length after.numbers ≡ length before.numbers =
    either_way (λ (head : Head). IsUnpacked 2 c.args.code.now.down c.args.frame.now before after head) (after ≡ before) (length after.numbers ≡ length before.numbers)
    c.unpack_down.result c.unpack_down.ensures.ok c.unpack_down.ensures.kept (λ head is. is.kept.count) (λ same. ap (λ (rs : Registers). length rs.numbers) same) in
    rw count cleared.are_active
