-- The version of the library, in one number.
use Rattle.std.specs.Prelude.{ℕ, ◌+◌, ◌*◌, ◌^◌}

abbrev pub major : ℕ
major = 2

abbrev pub minor : ℕ
minor = 0

abbrev pub patch : ℕ
patch = 0

abbrev pub version : ℕ
version = major * 2 ^ 16 + minor * 2 ^ 8 + patch
