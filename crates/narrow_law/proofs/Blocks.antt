-- Bytes of blocks, as far as their types allow indexes.
use Rattle.std.proofs.Common.{◌≡◌, ◌<◌, ◌≤◌, ◌^◌, ℕ, ◌+◌, ◌*◌, List, [], ◌∷◌, Option, Some, refl, ap, sym, subst, ◌∙◌, arith}
use Rattle.std.proofs.Math.Nat.{mul-le-mul}
use Rattle.std.specs.Option.{option_map_or}
use Rattle.std.proofs.lemmas.Option.{same_Some}
use Rattle.spv_module.specs.declared.inst.Inst.{Inst}
use Rattle.spv_types.specs.Tree as plain
use Rattle.spv_types.specs.Tree.{Tree, Trees}
use Rattle.spv_types.specs.Leaves.{IsSized}
use Rattle.spv_types.specs.Types.{type_tree}
use Rattle.layout_rules.specs.declared.Kind.{Kind}
use Rattle.layout_rules.specs.Sizes.{whole_alignment, alignment_of, size_of, stride_over}
use Rattle.module_semantics.specs.Setting.{Setting}
use Rattle.module_semantics.specs.Memory.{array_stride, bytes_along, bytes_by, member_offset, part_bytes, part_type}
use Rattle.fits_law.specs.Takes.{nth_of}
use Rattle.type_law.proofs.Places.{part_leads}
use Rattle.global_law.specs.Laid.{IsLaidOut}
use Rattle.global_law.specs.Parts.{StructNames}
use Rattle.global_law.proofs.Path.Types.{declared_as, op_of}
use Rattle.narrow_law.specs.Reach.{Along}
use Rattle.narrow_law.specs.Low.{IsLowMember}
use Rattle.narrow_law.proofs.Sizes.{at_least}
use Rattle.narrow_law.proofs.Inside.{bytes_low}

module _ (s : Setting) (y : StructNames) (k : Kind) where
  abbrev Gs : List Inst
  Gs = s.of.globals

  part_is : (ty i : ℕ) (t : Tree) → type_tree Gs ty ≡ Some t → (g : Inst) × (part_bytes s ty i ≡ bytes_by s g i (op_of t)) × (g.result ≡ ty)
  part_is ty i t shape =
      let d = declared_as s ty t shape in
      (d.0, ap (λ (o : Option Inst). option_map_or (λ (g : Inst). bytes_by s g i g.op) o 0) d.1 ∙ ap (bytes_by s d.0 i) d.2, d.3)

  member_bytes : (ty i id : ℕ) (ts : Trees) → type_tree Gs ty ≡ Some (plain.struct id ts) → part_bytes s ty i ≡ member_offset s ty i
  member_bytes ty i id ts shape = let p = part_is ty i (plain.struct id ts) shape in p.1 ∙ ap (λ n. member_offset s n i) p.2

  element_bytes : (ty i : ℕ) (t : Tree) → type_tree Gs ty ≡ Some (plain.runtime t) → part_bytes s ty i ≡ i * array_stride s ty
  element_bytes ty i t shape = let p = part_is ty i (plain.runtime t) shape in p.1 ∙ ap (λ n. i * array_stride s n) p.2

  -- of a runtime array of what has a size
  runtime_low : (path : List ℕ) (ty : ℕ) (t : Tree) → type_tree Gs ty ≡ Some (plain.runtime t) → IsSized t → IsLaidOut s k ty (plain.runtime t) → stride_over k t < 2 ^ 32 → Along s (plain.runtime t) path
      → bytes_along s ty path < 2 ^ 63 + 2 ^ 33
  runtime_low [] ty t shape h laid low along = omega arith
  runtime_low (i ∷ is) ty t shape h laid low (u, at, inside, short, along) =
      let same : t ≡ u = same_Some t u at in
      let few : i ≤ 2 ^ 31 = omega (arith, short) in
      let here : part_bytes s ty i ≡ i * stride_over k t = element_bytes ty i t shape ∙ ap (λ n. i * n) laid.0 in
      let most : i * stride_over k t ≤ 2 ^ 31 * 2 ^ 32 = mul-le-mul few (let l : stride_over k t ≤ 2 ^ 32 = omega (arith, low) in l) in
      let later : bytes_along s (part_type s ty i) is ≤ size_of k t + 16 = bytes_low s y k is (part_type s ty i) t (part_leads s ty i (plain.runtime t) t shape refl) h (laid.1 i) (subst (λ x. Along s x is) (sym same) along) in
      omega (arith, here, most, later, low, at_least (size_of k t) (whole_alignment k (alignment_of k t)))

  by_member : (path : List ℕ) (ty offset : ℕ) (t : Tree) → type_tree Gs ty ≡ Some t → IsLaidOut s k ty t → IsLowMember k offset t → Along s t path → offset + bytes_along s ty path < 2 ^ 64
  by_member path ty offset (plain.runtime t) shape laid low along = omega (arith, low.1, runtime_low path ty t shape low.0 laid low.2 along)
  by_member path ty offset plain.boolean shape laid low along = omega (arith, low.1, bytes_low s y k path ty plain.boolean shape low.0 laid along)
  by_member path ty offset plain.int shape laid low along = omega (arith, low.1, bytes_low s y k path ty plain.int shape low.0 laid along)
  by_member path ty offset plain.uint shape laid low along = omega (arith, low.1, bytes_low s y k path ty plain.uint shape low.0 laid along)
  by_member path ty offset (plain.vector e n) shape laid low along = omega (arith, low.1, bytes_low s y k path ty (plain.vector e n) shape low.0 laid along)
  by_member path ty offset (plain.array t l) shape laid low along = omega (arith, low.1, bytes_low s y k path ty (plain.array t l) shape low.0 laid along)
  by_member path ty offset (plain.struct id ts) shape laid low along = omega (arith, low.1, bytes_low s y k path ty (plain.struct id ts) shape low.0 laid along)

  -- Of a block whose members end within 32 bits: a part that is there has a byte of 64 bits.
  pub block_low : (path : List ℕ) (ty id : ℕ) (ts : Trees) → type_tree Gs ty ≡ Some (plain.struct id ts)
      → ((i : ℕ) (u : Tree) → nth_of ts i ≡ Some u → IsLaidOut s k (part_type s ty i) u × IsLowMember k (member_offset s ty i) u)
      → Along s (plain.struct id ts) path → bytes_along s ty path < 2 ^ 64
  block_low [] ty id ts shape fine along = omega arith
  block_low (i ∷ is) ty id ts shape fine (u, at, inside, short, along) =
      let m = fine i u at in
      subst (λ n. n + bytes_along s (part_type s ty i) is < 2 ^ 64) (sym (member_bytes ty i id ts shape))
      (by_member is (part_type s ty i) (member_offset s ty i) u (part_leads s ty i (plain.struct id ts) u shape at) m.0 m.1 along)
