-- The room of a vector: how many bytes can be appended without taking memory.
use Rattle.std.specs.Prelude.{ℕ, ◌-◌, vec_capacity, vec_len}
use Rattle.std.specs.Global.{Vec}

abbrev pub spare_of : Vec ℕ → ℕ
spare_of out = vec_capacity out - vec_len out
