-- The version of the calls and of the formats that they read and write, as one number. The major
-- part is raised where a format or the arguments of a call change, the minor where something is
-- added, and the patch otherwise.
-- Assumes nothing.
use Rattle.std.specs.Prelude.{ℕ, ◌+◌, ◌*◌}

abbrev pub version_of : ℕ → ℕ → ℕ → ℕ
version_of major minor patch = major * 65536 + minor * 256 + patch

abbrev pub version : ℕ
version = version_of 3 0 0
