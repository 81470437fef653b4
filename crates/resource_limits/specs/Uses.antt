-- How instructions use objects.
use Rattle.std.specs.Prelude.{◌≡◌, ℕ, ◌==◌, Bool, false, not, ◌&&◌, List}
use Rattle.std.specs.Prelude.{Option, Some, None, nat_lt, slice_index, if◌then◌else◌}
use Rattle.state_store.specs.declared.object.Kind.{Kind}
use Rattle.state_store.specs.declared.object.ObjectDecl.{ObjectDecl}
use Rattle.state_store.specs.Kinds.{is_table, is_constant}
use Rattle.flat_ir.specs.Program.{Program, step_at}
use Rattle.split_model.specs.declared.split.Part.{Part}
use Rattle.split_model.specs.Split.{is_pre, is_post}
use Rattle.split_model.specs.Shown.{looks_at, writes_to, is_shown}
use Rattle.split_model.specs.Counts.{count_steps, is_post_shown, object_bits, table_bits}
use Rattle.resource_limits.specs.Counts.{each_object}
use Rattle.resource_limits.specs.declared.uses.Use.{Use}
use Rattle.resource_limits.specs.declared.uses.Use.TheVariants.{Before, After, Change}

-- the object that is told is this one
abbrev pub is_object : Option ℕ → ℕ → Bool
is_object None o = false
is_object (Some object) o = object == o

-- instruction i uses object o in this way
abbrev pub is_used : Use → Program → List Part → ℕ → ℕ → Bool
is_used Before f split i o = is_pre split i && looks_at o (step_at f i).work
is_used After f split i o = is_post split i && looks_at o (step_at f i).work
is_used Change f split i o = writes_to o (step_at f i).work

-- how many instructions use object o in this way
abbrev pub uses : Use → Program → List Part → ℕ → ℕ
uses how f split o = count_steps f (λ i. is_used how f split i o)

-- the changes of an object, where the switch has to be told of them
abbrev pub told_of : Kind → ℕ → ℕ → ℕ
told_of kind looks changes = if not (is_table kind) && nat_lt 0 looks then changes else 0

-- the same of object o
abbrev pub told_at : List ObjectDecl → List ℕ → List ℕ → ℕ → ℕ
told_at objects before changes o =
    if not (is_constant objects o) && nat_lt 0 (slice_index before o) then slice_index changes o else 0

-- in every program, an object that is declared so and looked up so takes these bits
abbrev pub TakesBits : ObjectDecl → Bool → Bool → ℕ → ℕ → Type 0
TakesBits d before after writeback bits =
    (f : Program) (split : List Part) (o : ℕ) → is_shown f split o ≡ before → is_post_shown f split o ≡ after
    → bits ≡ object_bits f split writeback o d

-- in every program that declares these objects, a split with those tallies of looks takes these bits
abbrev pub TakeBits : List ObjectDecl → List ℕ → List ℕ → ℕ → ℕ → Type 0
TakeBits objects before after writeback bits =
    (f : Program) (split : List Part) → f.objects ≡ objects → before ≡ each_object f (uses Before f split)
    → after ≡ each_object f (uses After f split) → bits ≡ table_bits f split writeback
