-- The bytes that a line's text holds.
use Rattle.std.specs.Prelude.{ℕ, List}
use Rattle.listing.specs.declared.text.LineText.{LineText}

abbrev pub text_of : LineText → List ℕ
text_of t = t.0.bytes
