-- A link or none, as a pointer. This follows the code: only private types speak of it.
use Rattle.std.specs.Prelude.{◌≡◌, Option, Some, None, refl}
use Rattle.std.specs.Coded.{Coded, code_by, coded_option}
use denote.RawPtr.{Ptr, block_ptr, null_ptr, coded_ptr}
use Rattle.raw_nodes.specs.declared.arena.Link.{Link}

abbrev pub maybe_code : Coded (Option Link)
maybe_code = coded_option (code_by Ptr coded_ptr (λ l. l.ptr) (λ p. record { ptr = p }) (λ _. refl))

abbrev pub link_to : Ptr → Option Link
link_to (block_ptr b o) = Some (record { ptr = block_ptr b o })
link_to null_ptr = None

abbrev pub ptr_of : Option Link → Ptr
ptr_of None = null_ptr
ptr_of (Some l) = l.ptr

pub ptr_back : (p : Ptr) → ptr_of (link_to p) ≡ p
ptr_back (block_ptr b o) = refl
ptr_back null_ptr = refl
