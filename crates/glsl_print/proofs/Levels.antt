-- The levels as numbers.
use Rattle.std.proofs.Common.{append_assoc, codes, ◌≡◌, ◌+◌, ◌*◌, ◌++◌, ℕ, zero, suc, replicate, refl, sym, ap, ◌∙◌, arith, rules}
use Rattle.std.proofs.lemmas.List.{replicate-append-replicate}
use denote.Ref.{Bor}
use Rattle.glsl_grammar.specs.Layout.{indent_text}
use Rattle.glsl_grammar.specs.Marks.{mark_text}
use Rattle.glsl_grammar.specs.declared.marks.Mark.TheVariants as mark
use Rattle.glsl_print.specs.Level.{level_of}
use Rattle.glsl_print.specs.declared.level.Level as level
use Rattle.glsl_print.specs.declared.level.Level.{Level, the_lemmas}

pub level-Top : (levels : ℕ) → level_of (level.Top levels) ≡ levels
level-Top levels = search (rules, the_lemmas)

pub level-Under : (levels : ℕ) (outer : Bor Level) → level_of (level.Under levels outer) ≡ levels + level_of outer.now
level-Under levels outer = search (rules, the_lemmas)

pub ruleset level_rows = (level-Top, level-Under)

-- levels as blanks
pub indent-blanks : (levels : ℕ) → indent_text levels ≡ replicate (4 * levels) 32
unfolding mark_text
indent-blanks zero = refl
indent-blanks (suc levels) =
    let e : 4 * suc levels ≡ 4 + 4 * levels = omega arith in
    ap (λ l. codes "    " ++ l) (indent-blanks levels) ∙ replicate-append-replicate 4 (4 * levels) 32 ∙ ap (λ n. replicate n 32) (sym e)

pub indent-add : (m n : ℕ) → indent_text (m + n) ≡ indent_text m ++ indent_text n
indent-add zero n =
    let e : zero + n ≡ n = omega arith in
    ap indent_text e
indent-add (suc m) n =
    let e : suc m + n ≡ suc (m + n) = omega arith in
    ap indent_text e ∙ ap (λ l. mark_text mark.Indent ++ l) (indent-add m n) ∙ sym (append_assoc (mark_text mark.Indent) (indent_text m) (indent_text n))

pub indent-Under : (l : Level) (levels : ℕ) (outer : Bor Level) → l ≡ level.Under levels outer → indent_text (level_of l) ≡ indent_text levels ++ indent_text (level_of outer.now)
indent-Under l levels outer is = rw (is, level-Under levels outer) (indent-add levels (level_of outer.now))
