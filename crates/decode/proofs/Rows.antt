-- What writes to a lent row leave there.
use Rattle.std.proofs.Common.{◌≡◌, ℕ, ◌+◌, ◌-◌, ◌≤◌, List, ◌++◌, length, take, drop, Some, Option, refl, ap, ◌∙◌, subst, arith}
use borrow.Rule.Slice.PartMut.{put_mid, post_of}
use Rattle.std.proofs.lemmas.List.{take_at, drop_at, drop-drop, drop_all, take_rest, append-nil, length-append, length-drop}
use Rattle.decode.specs.Entry.{Room, Tells}
use Rattle.decode.specs.declared.entry.Reply.TheVariants.{These}
use Rattle.decode.specs.declared.numbers.Difference.{Difference}
use Rattle.decode.specs.Numbers.{listed}
use Rattle.decode.proofs.Listing.{length_listed}

-- gone at the start, and come in the part that starts where they end
pub both_written : (gone come out mid end : List ℕ)
    → length gone + length come ≤ length out
    → mid ≡ gone ++ drop (length gone) out
    → end ≡ come ++ drop (length come) (take (length mid - length gone) (drop (length gone) mid))
    → put_mid (length gone) (length mid - length gone) mid end ≡ gone ++ (come ++ drop (length gone + length come) out)
both_written gone come out mid end room first second =
    let w : ℕ = length gone in
    let n : ℕ = length come in
    let front : take w mid ≡ gone = ap (take w) first ∙ take_at gone (drop w out) w refl in
    let back : drop w mid ≡ drop w out = ap (drop w) first ∙ drop_at gone (drop w out) w refl in
    let after : end ≡ come ++ drop (w + n) out =
    second
    ∙ ap (λ t. come ++ drop n t) (take_rest mid w ∙ back)
    ∙ ap (λ t. come ++ t) (drop-drop n w out) in
    ap (λ t. t ++ (end ++ post_of w (length mid - w) mid)) front
    ∙ ap (λ t. gone ++ (t ++ post_of w (length mid - w) mid)) after
    ∙ ap (λ t. gone ++ ((come ++ drop (w + n) out) ++ t))
    (drop_all (length mid - w) (drop w mid) (omega (arith, length-drop w mid)))
    ∙ ap (λ t. gone ++ t) (append-nil (come ++ drop (w + n) out))

-- from any place among the numbers gone, or from where they end, there is room for the numbers come
pub rest_room : (gone come out mid : List ℕ) (from : ℕ)
    → from ≤ length gone
    → length gone + length come ≤ length out
    → mid ≡ gone ++ drop (length gone) out
    → length come ≤ length (take (length mid - from) (drop from mid))
rest_room gone come out mid from low room first =
    let part : length (take (length mid - from) (drop from mid)) ≡ length mid - from =
    ap length (take_rest mid from) ∙ length-drop from mid in
    let whole : length mid ≡ length gone + length (drop (length gone) out) =
    ap length first ∙ length-append gone (drop (length gone) out) in
    omega (arith, part, whole, length-drop (length gone) out)

module _ (f : Difference) (gone come : List ℕ) (gone_is : gone ≡ listed f.gone) (come_is : come ≡ listed f.come) where
  gone_size : length gone ≡ f.gone.len
  gone_size = ap length gone_is ∙ length_listed f.gone

  come_size : length come ≡ f.come.len
  come_size = ap length come_is ∙ length_listed f.come

  pub room_some : (o : Option Difference) (n : ℕ) → o ≡ Some f → Room o n → length gone + length come ≤ n
  room_some o n some room =
      let here : Room (Some f) n = subst (λ (t : Option Difference). Room t n) some room in
      omega (arith, gone_size, come_size)

  pub tells_some : (o : Option Difference) (out out₁ : List ℕ)
      → o ≡ Some f
      → out₁ ≡ gone ++ (come ++ drop (length gone + length come) out)
      → Tells o out (These (length gone) (length come)) out₁
  tells_some o out out₁ some written = rw some (
    ap (λ t. These t (length come)) gone_size ∙ ap (These f.gone.len) come_size,
    written
        ∙ ap (λ t. t ++ (come ++ drop (length gone + length come) out)) gone_is
        ∙ ap (λ t. listed f.gone ++ (t ++ drop (length gone + length come) out)) come_is
        ∙ ap (λ t. listed f.gone ++ (listed f.come ++ drop (t + length come) out)) gone_size
        ∙ ap (λ t. listed f.gone ++ (listed f.come ++ drop (f.gone.len + t) out)) come_size,
  )
