-- What a call says that writes bytes into a buffer: the buffer as it was lent and as it is after the call, and the number and place that are answered.
use Rattle.std.specs.Prelude.{ℕ, ◌≡◌, List, length, take, drop}

module _ (buffer : List ℕ) (number place : ℕ) (after : List ℕ) where
  -- the bytes stand at the front of the buffer, and "Bytes of a buffer after what was written keep their values"
  pub record Written (bytes : List ℕ) : Type 0 where
    pub number_is : number ≡ 0
    pub place_is : place ≡ length bytes
    pub front : take place after ≡ bytes
    pub back : drop place after ≡ drop place buffer

  -- a refusal writes nothing
  pub record Refused (k p : ℕ) : Type 0 where
    pub number_is : number ≡ k
    pub place_is : place ≡ p
    pub kept : after ≡ buffer
