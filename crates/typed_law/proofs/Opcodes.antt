-- What holds of an opcode holds of one that has its number.
use Rattle.std.proofs.Common.{◌≡◌, ◌∙◌, true, ap, eqb-true, subst, sym}
use Rattle.std.proofs.lemmas.Option.{same_Some}
use Rattle.spv_ops.specs.Opcode.{is, number, op_of}
use Rattle.spv_ops.specs.declared.opcode.Op.{Op}
use Rattle.spv_ops.proofs.Opcodes.{op_of_number}

told : (o p : Op) → is o p ≡ true → o ≡ p
told o p e = same_Some o p (sym (op_of_number o) ∙ ap op_of (eqb-true (number o) (number p) e) ∙ op_of_number p)

pub of_number : (p : Op) (P : Op → Type 0) → P p → (o : Op) → is o p ≡ true → P o
of_number p P has o e = subst P (sym (told o p e)) has
