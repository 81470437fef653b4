use Rattle.std.proofs.Common.{◌∙◌, None, length, sym, ap, arith}
use Rattle.element_lang.specs.declared.tree.Middlebox.{Middlebox}
use Rattle.chain_compose.proofs.Below.{own_known}
use Rattle.element_chain.proofs.Whole.{length_of_locals}
use Rattle.chain_compose.proofs.parts.Parts.whole.Goals as goal

pub put_body-requires-clause-known : goal.put_body-requires-clause-known
put_body-requires-clause-known c =
    own_known c.args.self.now (record { element = 0; port = None; levels = length c.args.self.now.classes.now }) c.index-self-0.result c.deref.result.now c.requires.nonempty c.index-self-0.is
    (c.deref.ensures.value ∙ ap (λ (k : Middlebox). k.body.items) (sym c.index-self-0.is))

pub returns-clause-small : goal.returns-clause-small
returns-clause-small c =
    omega (arith, ap length c.in_ok-locals.ensures, length_of_locals 0 c.deref-2.result.now, ap length c.deref-2.ensures.value, c.put_body.new.widths.small, c.put_body.new.widths.ok)
