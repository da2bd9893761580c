-- Where the string of an instruction begins, by the number of its opcode.
use Rattle.std.proofs.Common.{◌≡◌, ◌==◌, ◌||◌, ℕ, false, Option, Some, None, IfSome, IfNone, refl, ap, sym, ◌∙◌, subst, inl, inr}
use Rattle.std.proofs.lemmas.Bool.Decides.{eqb_tells}
use Rattle.std.specs.Prelude.{option_and_then, if◌then◌else◌}
use Rattle.spv_ops.specs.Opcode.{op_of, number, HasNoOp}
use Rattle.spv_ops.specs.declared.opcode.Op.{Op}
use Rattle.spv_ops.specs.declared.opcode.Op.TheVariants as op
use Rattle.spv_ops.proofs.Opcodes.{number_found, none_has}
use Rattle.spv_module.specs.Broken.{text_place, text_place_at}

abbrev pub place_by : ℕ → Option ℕ
place_by n = if (n == number op.Name) || (n == number op.ExtInstImport) then Some 2 else (if (n == number op.MemberName) || (n == number op.EntryPoint) then Some 3 else None)

of_op : (o : Op) → text_place o ≡ place_by (number o)
unfolding number
of_op op.Nop = refl
of_op o = refl

of_none : (n : ℕ) → HasNoOp n → place_by n ≡ None
of_none n free =
    let other : (o : Op) → (n == number o) ≡ false = λ o. elim (eqb_tells n (number o)) [ inl same ↦ absurd (free o (sym same.1)) | inr apart ↦ apart.0 ] in
    rw (other op.Name, other op.ExtInstImport, other op.MemberName, other op.EntryPoint) refl

pub place_is : (n : ℕ) → text_place_at n ≡ place_by n
place_is n =
    let P : Option Op → Type 0 = λ x. op_of n ≡ x → option_and_then text_place x ≡ place_by n in
    (elim (op_of n) as P [
      | None ↦ λ e. sym (of_none n (subst (λ (x : Option Op). IfNone x (HasNoOp n)) e (none_has n)))
      | (Some o) ↦ λ e. of_op o ∙ ap place_by (subst (λ (x : Option Op). IfSome x (λ o. number o ≡ n)) e (number_found n))
    ]) refl
