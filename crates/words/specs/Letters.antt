-- The capital ASCII letters that the join words are spelled with, and where the small ones begin and end.
use Rattle.std.specs.Prelude.{ℕ}

abbrev pub A : ℕ
A = 65

abbrev pub C : ℕ
C = 67

abbrev pub E : ℕ
E = 69

abbrev pub F : ℕ
F = 70

abbrev pub G : ℕ
G = 71

abbrev pub H : ℕ
H = 72

abbrev pub I : ℕ
I = 73

abbrev pub L : ℕ
L = 76

abbrev pub N : ℕ
N = 78

abbrev pub O : ℕ
O = 79

abbrev pub R : ℕ
R = 82

abbrev pub S : ℕ
S = 83

abbrev pub T : ℕ
T = 84

abbrev pub U : ℕ
U = 85

abbrev pub small_a : ℕ
small_a = 97

abbrev pub small_z : ℕ
small_z = 122
