-- How rows of declared widths lie in memory.
use Rattle.state_store.specs.Fitted.{Fitted}
use Rattle.state_store.specs.declared.fitted_rows.Form.{Form}
use Rattle.state_store.specs.declared.fitted_rows.Form.TheVariants.{Placed, Packed}

abbrev pub rows_in_form : Form → Fitted
rows_in_form (Placed rows) = rows
rows_in_form (Packed rows) = rows
