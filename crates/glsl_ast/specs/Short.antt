-- The bytes of a short text.
use Rattle.std.specs.Prelude.{ℕ, List, take}
use Rattle.glsl_ast.specs.declared.short.ShortText.{ShortText}

abbrev pub short_text : ShortText → List ℕ
short_text s = take s.len s.bytes
