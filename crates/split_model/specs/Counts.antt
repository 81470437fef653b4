-- What a split takes of the switch.
use Rattle.std.specs.Prelude.{ℕ, zero, suc, ◌+◌, ◌*◌, ◌/◌, max, Bool, ◌&&◌, ◌||◌, List, [], ◌∷◌}
use Rattle.std.specs.Prelude.{length, Option, Some, None, if◌then◌else◌}
use Rattle.gal_bits.specs.Fitting.{sum_of}
use Rattle.state_store.specs.declared.object.ObjectDecl.{ObjectDecl}
use Rattle.state_store.specs.Kinds.{is_table}
use Rattle.flat_ir.specs.Program.{Program, step_at}
use Rattle.split_model.specs.declared.split.Part.{Part}
use Rattle.split_model.specs.declared.layout.Crossing.{Crossing}
use Rattle.split_model.specs.Split.{pre_stage, post_stage, is_pre, is_post, any_step}
use Rattle.split_model.specs.Shown.{looks_at, writes_to, is_shown, is_replicated}
use Rattle.split_model.specs.Layouts.{up_layout, down_layout}

-- how many of the first n numbers pass the test
abbrev pub count_below : ℕ → (ℕ → Bool) → ℕ
count_below zero test = 0
count_below (suc n) test = count_below n test + (if test n then 1 else 0)

abbrev pub count_steps : Program → (ℕ → Bool) → ℕ
count_steps f test = count_below (length f.code) test

-- the looks on an object in either pass: a look in both passes counts twice
abbrev pub accesses : Program → List Part → ℕ → ℕ
accesses f split o =
    count_steps f (λ i. is_pre split i && looks_at o (step_at f i).work)
    + count_steps f (λ i. is_post split i && looks_at o (step_at f i).work)

-- the puts and dels of a replicated object
abbrev pub writes : Program → List Part → ℕ → ℕ
writes f split o = if is_replicated f split o then count_steps f (λ i. writes_to o (step_at f i).work) else 0

abbrev pub stage_or_zero : Option ℕ → ℕ
stage_or_zero None = 0
stage_or_zero (Some stage) = stage

-- the highest stage of the first n instructions in either pass
abbrev pub highest_below : List Part → ℕ → ℕ
highest_below split zero = 0
highest_below split (suc n) =
    max (highest_below split n) (max (stage_or_zero (pre_stage split n)) (stage_or_zero (post_stage split n)))

abbrev pub stages : Program → List Part → ℕ
stages f split = highest_below split (length f.code)

-- an object is looked up in postprocessing
abbrev pub is_post_shown : Program → List Part → ℕ → Bool
is_post_shown f split o = any_step f (λ i. is_post split i && looks_at o (step_at f i).work)

-- The bits of an object's tables on the switch: a constant table that is looked up has its rows, and a replicated
-- object has room for its size and for the rows of its write-back table, each with one bit more.
abbrev pub object_bits : Program → List Part → ℕ → ℕ → ObjectDecl → ℕ
object_bits f split writeback o d =
    let bits = sum_of d.keys + sum_of d.values in
    if is_table d.kind
    then (if is_shown f split o || is_post_shown f split o then d.size * bits else 0)
    else (if is_shown f split o then d.size * bits + writeback * (bits + 1) else 0)

-- the same of the objects from number o on
abbrev pub bits_from : Program → List Part → ℕ → ℕ → List ObjectDecl → ℕ
bits_from f split writeback o [] = 0
bits_from f split writeback o (d ∷ ds) = object_bits f split writeback o d + bits_from f split writeback (suc o) ds

abbrev pub table_bits : Program → List Part → ℕ → ℕ
table_bits f split writeback = bits_from f split writeback 0 f.objects

-- how many bytes hold so many bits
abbrev pub bytes_for : ℕ → ℕ
bytes_for bits = (bits + 7) / 8

-- how many bits the values of a layout have together
abbrev pub total : List Crossing → ℕ
total [] = 0
total (c ∷ cs) = c.width + total cs

-- the bytes that hold a layout's values
abbrev pub layout_bytes : List Crossing → ℕ
layout_bytes layout = bytes_for (total layout)

-- the longer of the headers up and down
abbrev pub transfer_bytes : Program → List Part → ℕ
transfer_bytes f split = max (layout_bytes (up_layout f split)) (layout_bytes (down_layout f split))
