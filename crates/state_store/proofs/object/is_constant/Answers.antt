use Rattle.std.proofs.Common.{◌∙◌, inl, inr, refl, sym, length}
use Rattle.std.proofs.lemmas.Bool.{cases_lt, false≢true, lt-ltb, ltb-true}
use Rattle.std.proofs.lemmas.Option.{slice_get_past, slice_get_read}
use Rattle.state_store.proofs.Constants.{constant_past, constant_at}
use Rattle.state_store.proofs.object.is_constant.Goals as goal

pub returns-in-None : goal.returns-in-None
returns-in-None c =
    let objects = c.args.objects.now in
    elim (cases_lt c.args.number (length objects)) [
      | inl lt ↦ absurd (false≢true (c.in-None.ensures.lookup.0 ∙ lt-ltb c.args.number (length objects) lt))
      | inr le ↦ sym (constant_past objects c.args.number (slice_get_past objects c.args.number le))
    ]

pub returns-in-Some : goal.returns-in-Some
returns-in-Some c =
    let objects = c.args.objects.now in
    let within = ltb-true c.args.number (length objects) (sym c.in-Some.ensures.lookup.0) in
    let at = slice_get_read objects (length objects) c.args.number c.in-Some.object.now refl within c.in-Some.ensures.lookup.1 in
    c.is_table.ensures ∙ sym (constant_at objects c.args.number c.in-Some.object.now at)
