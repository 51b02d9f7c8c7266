-- Three fields, one after the other.
use Rattle.std.proofs.Common.{◌≡◌, ℕ, List, ◌++◌, ◌∙◌, append_assoc}
use Rattle.udp_wire.proofs.reply.put_group.Goals as goal

three_fields : (front x y z one two three : List ℕ) → one ≡ front ++ x → two ≡ one ++ y → three ≡ two ++ z
    → three ≡ front ++ (x ++ (y ++ z))
three_fields front x y z one two three e1 e2 e3 =
    let e : three ≡ ((front ++ x) ++ y) ++ z = cc in e ∙ simp append_assoc

pub returns-clause-text : goal.returns-clause-text
returns-clause-text c =
    three_fields _ _ _ _ _ _ _ c.put_u32-place.ensures.text c.put_u32-place-2.ensures.text c.put_u32.ensures.text
