-- Rows that are taken out of a table.
use Rattle.std.specs.Prelude.{List, [], ◌∷◌}
use Rattle.std.specs.FinMap as map
use Rattle.state_store.specs.Store.{Contents}
use Rattle.state_store.specs.declared.object.Row.{Row}

abbrev pub without_rows : List Row → Contents → Contents
without_rows [] rows = rows
without_rows (row ∷ more) rows = without_rows more (map.remove rows row.keys)
