-- The sets of settings that have a name. Definitions only.
use Rattle.std.specs.Prelude.{pos}
use Rattle.std.specs.Float.{binary32}
use Rattle.std.specs.Float.Ieee.{of_int}
use Rattle.region.specs.declared.Settings.{Settings}

-- where a call sets none: margin 10 dB, dip 3 dB, as teachers set it for takes of hand-held microphones, gap 6 frames
unfoldable pub defaults : Settings
defaults = record { margin = of_int binary32 (pos 10); dip = of_int binary32 (pos 3); gap = 6 }

-- of old lessons, the defaults before version 5 and those of the Rust: margin 10 dB, dip 2 dB, gap 6 frames
unfoldable pub classic : Settings
classic = record { margin = of_int binary32 (pos 10); dip = of_int binary32 (pos 2); gap = 6 }
