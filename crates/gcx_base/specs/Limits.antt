-- The limits of the program (this project's).
use Rattle.gcx_base.specs.declared.limits.Limits.{Limits}

abbrev pub full_limits : Limits
full_limits = record { bytes = 1099511627776; depth = 1000; name = 1024; text = 16777216 }
