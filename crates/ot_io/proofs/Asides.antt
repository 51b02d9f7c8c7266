-- What is the same where what a call leaves alone is the same.
use Rattle.std.proofs.Common.{◌≡◌, ℕ, List, Option, Some, ap}
use Rattle.ot_base.specs.declared.address.Endpoint.{Endpoint}
use Rattle.ot_io.specs.Content.{Aside, written_aside, left_aside}

pub same_written : (a b : Option (List ℕ)) (x y : Endpoint) → written_aside a x ≡ written_aside b y → a ≡ b
same_written a b x y e = ap (λ (aside : Aside). aside.stream) e

pub same_left : (a b : Option (List ℕ)) (m n : ℕ) (x y : Endpoint) → left_aside a m x ≡ left_aside b n y → a ≡ b
same_left a b m n x y e = ap (λ (aside : Aside). aside.stream) e

pub same_ends : (a b : Option (List ℕ)) (m n : ℕ) (x y : Endpoint) → left_aside a m x ≡ left_aside b n y → m ≡ n
same_ends a b m n x y e = ap (λ (aside : Aside). aside.ends) e

pub same_client_read : (a b : Option (List ℕ)) (x y : Endpoint) → written_aside a x ≡ written_aside b y → x ≡ y
same_client_read a b x y e =
    let peers : Some x ≡ Some y = ap (λ (aside : Aside). aside.peer) e in
    cc

pub same_client_written : (a b : Option (List ℕ)) (m n : ℕ) (x y : Endpoint) → left_aside a m x ≡ left_aside b n y → x ≡ y
same_client_written a b m n x y e =
    let peers : Some x ≡ Some y = ap (λ (aside : Aside). aside.peer) e in
    cc
