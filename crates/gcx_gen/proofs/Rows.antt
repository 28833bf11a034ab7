-- The definitions computed on examples.
use Rattle.std.proofs.Common.{◌≡◌, refl}
use Rattle.gcx_gen.specs.Generated.{price_of}

last_price : price_of 4294967295 99999 ≡ 58
last_price = refl
