-- Which numbers go with a declared object.
use Rattle.std.specs.Prelude.{ℕ, Bool, false, not, List, Option, Some, None}
use Rattle.gal_bits.specs.Fitting.{same_widths}
use Rattle.state_store.specs.declared.object.ObjectDecl.{ObjectDecl}
use Rattle.state_store.specs.Kinds.{is_table, is_map}

-- keys, and values or bound locals, fit the declaration in count and widths
abbrev pub fits_keys : Option ObjectDecl → List ℕ → Bool
fits_keys None widths = false
fits_keys (Some o) widths = same_widths widths o.keys

abbrev pub fits_values : Option ObjectDecl → List ℕ → Bool
fits_values None widths = false
fits_values (Some o) widths = same_widths widths o.values

abbrev pub can_put : Option ObjectDecl → Bool
can_put None = false
can_put (Some o) = not (is_table o.kind)

abbrev pub can_del : Option ObjectDecl → Bool
can_del None = false
can_del (Some o) = is_map o.kind
