use Rattle.std.specs.Prelude.{ℕ, List, [], ◌∷◌, ◌++◌, map, Some, None, codes, decimal, Option, encode_utf8}
use Rattle.std.specs.Fmt.{◌++?◌}
use Prim.Native.String.{String}
use Rattle.content.specs.Words.{read_words, write_words}
use Rattle.layout.specs.Values.{Value, Part, flag}
use Rattle.values.specs.Words.{refusal_words}
use Rattle.values.specs.declared.refusal.Refusal.{Refusal}

-- words, each after a space
abbrev pub spaced : List (List ℕ) → List ℕ
spaced [] = []
spaced (w ∷ ws) = codes " " ++ (w ++ spaced ws)

-- words with one space between each two
abbrev pub listed : List (List ℕ) → List ℕ
listed [] = []
listed (w ∷ ws) = w ++ spaced ws

-- the same of rows by what each prints, if that is known of each
abbrev pub spaced_output : {X : Type 0} → (X → Option (List ℕ)) → List X → Option (List ℕ)
spaced_output output [] = Some []
spaced_output output (x ∷ xs) = Some (codes " ") ++? output x ++? spaced_output output xs

abbrev pub listed_output : {X : Type 0} → (X → Option (List ℕ)) → List X → Option (List ℕ)
listed_output output [] = Some []
listed_output output (x ∷ xs) = output x ++? spaced_output output xs

-- numbers, each after its word, and then the rest
abbrev pub labelled : List (String × ℕ) → List ℕ → List ℕ
labelled [] rest = rest
labelled (n ∷ ns) rest = codes n.0 ++ (decimal n.1 ++ labelled ns rest)

abbrev pub tail_text : Option Part → List ℕ
tail_text None = []
tail_text (Some p) =
    labelled ((" second=", p.second) ∷ [])
    (codes " reads=[" ++ (listed (map read_words p.reads) ++ (codes "] writes=[" ++ (listed (map write_words p.writes) ++ codes "]"))))

abbrev pub rest_text : ℕ → ℕ → Option Part → List ℕ
rest_text accepted accepted_view content =
    labelled ((" accepted=", accepted) ∷ (" accepted_view=", accepted_view) ∷ (" content=", flag content) ∷ []) (tail_text content)

-- a frame in one line
abbrev pub text : Value → List ℕ
text v =
    let h = v.header in
    encode_utf8 h.kind
    ++ labelled ((" filing=", h.transaction) ∷ (" sender=", h.sender) ∷ (" view=", h.view) ∷ (" code=", h.code) ∷ [])
    (rest_text h.accepted h.accepted_view v.content)

abbrev pub refusal_text : Refusal → List ℕ
refusal_text r = codes "refused " ++ refusal_words r
