-- The worked examples, each by its pieces and its derivation.
use Rattle.std.proofs.Common.{◌≡◌, ℕ, zero, suc, ◌⊎◌, List, [], ◌∷◌, ◌++◌, Some, false, nat_eq, slice_get, inl, inr, refl, sym, subst, arith}
use Rattle.std.specs.Prelude.{codes}
use Rattle.og_base.specs.declared.Place.{Place}
use Rattle.og_base.specs.declared.Rule.TheVariants.{L1, L2, S1}
use Rattle.og_lexer.specs.declared.Keyword.TheVariants as word
use Rattle.og_lexer.specs.declared.Mark.TheVariants as mark
use Rattle.og_lexer.specs.declared.AsnMark.TheVariants as asn_mark
use Rattle.og_lexer.specs.declared.Language.{Language}
use Rattle.og_lexer.specs.declared.Language.TheVariants.{Sdl, Asn}
use Rattle.og_lexer.specs.declared.Spanned.{Spanned}
use Rattle.og_lexer.specs.declared.Token.{Token}
use Rattle.og_lexer.specs.declared.Token.TheVariants as token
use Rattle.og_lexer.specs.declared.front.Shape.TheVariants as shape
use Rattle.og_lexer.specs.Bytes.{class_of}
use Rattle.og_lexer.specs.Keywords.{keyword_text}
use Rattle.og_lexer.specs.Texts.{Piece, LexesIn, FirstLexicalIn}
use Rattle.og_lexer.proofs.Reserved.{keyword-none}
use Rattle.og_grammar.specs.declared.Nesting.{Nesting}
use Rattle.og_grammar.specs.declared.Nesting.TheVariants.{Keeps}
use Rattle.og_grammar.specs.declared.Symbol.{Symbol}
use Rattle.og_grammar.specs.declared.Symbol.TheVariants.{Token as TokenDue, Part, Many}
use Rattle.og_grammar.specs.Sentence.{rules_of, Derives, nothing, token as token_met, chosen, ends, meets, takes}
use Rattle.og_grammar.specs.Answers.{IsFirstWrong}
use Rattle.og_grammar.proofs.Telling.{token_is}
use Rattle.og_names.proofs.Truths.{same_value as same_some}
use Rattle.og_asn1.specs.Kinds.{kind_of}
use Rattle.og_asn1.specs.Reading.{onto, turns}
use Rattle.og_asn1.specs.Trees.{modules_at}
use Rattle.og_sdl.specs.declared.table.TheConstants.{SDL}
use Rattle.og_reading.specs.declared.kind.TheConstants.{LAST}
use Rattle.og_reading.specs.declared.sentence.TheConstants.{LIMIT}
use Rattle.og_reading.specs.Fronts.{Stands}
use Rattle.og_reading.specs.Kinds.{kinds_of}
use Rattle.og_reading.specs.Sentences.{FirstSyntactic}
use Rattle.og_parse.specs.Grammar.{AreUnits}
use Rattle.og_trees.specs.Reading.{IsTextOfUnits, IsTextOfModules, BreaksGrammar}
use Rattle.og_trees.specs.Examples.{place_in, broken_in, use_text, use_in, NumbersRise, FirstIsFound, OrderIsKept, NoFiles, EmptyFiles, FilesInOrder, LanguagesDiffer, FirstOfTwoFiles, SecondOfTwoFiles, NoTextBeginsSo, FirstOfTwoTexts, TokensComeFirst}

-- ---- files one by one

pub numbers_rise : NumbersRise
numbers_rise = (refl, (refl, (refl, tt)))

pub first_is_found : FirstIsFound
first_is_found = inr (refl, inl refl)

pub order_is_kept : OrderIsKept
order_is_kept = (0 ∷ 7 ∷ [], 1 ∷ 2 ∷ 8 ∷ 9 ∷ [], refl, (1 ∷ [], 2 ∷ 8 ∷ 9 ∷ [], refl, (2 ∷ 8 ∷ 9 ∷ [], [], refl, refl, refl), refl), refl)

-- ---- texts without a byte

abbrev at_column : ℕ → Token → ℕ → ℕ → ℕ → Spanned
at_column file t column start end = record { token = t; place = place_in file column; start = start; end = end }

-- the end of a file that has no other token
abbrev end_alone : ℕ → List Spanned
end_alone file = at_column file token.End 1 0 0 ∷ []

nothing_lexes : (language : Language) (file : ℕ) → LexesIn language file [] (end_alone file) []
nothing_lexes language file = record { pieces = []; cuts = refl; tokens_are = refl; comments_are = refl }

no_units : (file : ℕ) → IsTextOfUnits file [] []
no_units file = record {
  tokens = end_alone file;
  comments = [];
  lexes = nothing_lexes Sdl file;
  are = (
    (end_alone file, refl, (place_in file 1, record { first = at_column file token.End 1 0 0; parts = refl; is = refl; at = refl })),
    record {
      choices = 0 ∷ 0 ∷ [];
      derived = chosen _ 0 _ refl (chosen _ 0 _ refl (token_met nothing));
      counts = 0 ∷ [];
      nests = takes _ 0 _ refl (takes _ 0 _ refl (meets ends));
      within = (omega arith, tt);
    },
  );
}

no_modules : (file : ℕ) → IsTextOfModules file [] []
unfolding kind_of modules_at onto turns
no_modules file = record {
  tokens = end_alone file;
  comments = [];
  lexes = nothing_lexes Asn file;
  are = (
    record { choices = 0 ∷ 0 ∷ []; derived = chosen _ 0 _ refl (chosen _ 0 _ refl (token_met nothing)); trees = refl },
    record {
      choices = 0 ∷ 0 ∷ [];
      derived = chosen _ 0 _ refl (chosen _ 0 _ refl (token_met nothing));
      counts = 0 ∷ [];
      nests = takes _ 0 _ refl (takes _ 0 _ refl (meets ends));
      within = (omega arith, tt);
    },
  );
}

-- ---- USE a;

abbrev use_pieces : List Piece
use_pieces =
    record { shape = shape.Reserved word.Use; text = codes "USE" } ∷ record { shape = shape.Space; text = codes " " } ∷ record { shape = shape.Name; text = codes "a" }
    ∷ record { shape = shape.Sign mark.Semicolon; text = codes ";" } ∷ []

abbrev name_a : Token
name_a = token.Name (record { bytes = codes "a" })

abbrev use_tokens : ℕ → List Spanned
use_tokens file =
    at_column file (token.Keyword word.Use) 1 0 3 ∷ at_column file name_a 5 4 5 ∷ at_column file (token.Mark mark.Semicolon) 6 5 6 ∷ at_column file token.End 7 6 6 ∷ []

use_lexes : (file : ℕ) → LexesIn Sdl file use_text (use_tokens file) []
unfolding class_of keyword_text
use_lexes file = record {
  pieces = use_pieces;
  cuts = (
    codes " a;",
    record { joined = refl; is_of = ((refl, refl), refl); follows = refl },
    omega arith,
    (
      codes "a;",
      record { joined = refl; is_of = (32, refl, refl); follows = refl },
      tt,
      (
        codes ";",
        record { joined = refl; is_of = ((refl, refl), keyword-none (codes "a") refl); follows = refl },
        omega arith,
        ([], record { joined = refl; is_of = refl; follows = tt }, tt, refl),
      ),
    ),
  );
  tokens_are = refl;
  comments_are = refl;
}

-- the token in front
front : {t : Token} {p : Place} {m n : ℕ} {ts : List Spanned} → Stands t p (record { token = t; place = p; start = m; end = n } ∷ ts) ts
front = record { first = record { token = _; place = _; start = _; end = _ }; parts = refl; is = refl; at = refl }

use_is : (file : ℕ) → AreUnits (use_in file ∷ []) (use_tokens file)
use_is file = (
  (_, (_, (_, front, (_, (_, front, refl), (_, refl, front))), refl), (_, front)),
  record {
    choices = 0 ∷ 1 ∷ 0 ∷ 0 ∷ 0 ∷ 0 ∷ 0 ∷ 0 ∷ 0 ∷ [];
    derived =
        chosen _ 0 _ refl (chosen _ 1 _ refl (chosen _ 0 _ refl (chosen _ 0 _ refl (token_met (chosen _ 0 _ refl (token_met (chosen _ 0 _ refl
        (chosen _ 0 _ refl (chosen _ 0 _ refl (token_met (chosen _ 0 _ refl (token_met nothing))))))))))));
    counts = 0 ∷ 0 ∷ 0 ∷ 0 ∷ [];
    nests =
        takes _ 0 _ refl (takes _ 1 _ refl (takes _ 0 _ refl (takes _ 0 _ refl (meets (takes _ 0 _ refl (meets (takes _ 0 _ refl
        (takes _ 0 _ refl (takes _ 0 _ refl (meets (takes _ 0 _ refl (meets ends))))))))))));
    within = (omega arith, (omega arith, (omega arith, (omega arith, tt))));
  },
)

one_use : (file : ℕ) → IsTextOfUnits file use_text (use_in file ∷ [])
one_use file = record { tokens = use_tokens file; comments = []; lexes = use_lexes file; are = use_is file }

-- ---- trees

pub no_files : NoFiles
no_files = record { read = record { lexed = tt; parsed = tt }; modules = refl; units = refl }

pub empty_files : EmptyFiles
empty_files = record {
  read = record {
    lexed = ((end_alone 0, ([], nothing_lexes Sdl 0)), ((end_alone 1, ([], nothing_lexes Asn 1)), tt));
    parsed = (([], no_units 0), (([], no_modules 1), tt));
  };
  modules = ([], [], refl, ([], [], no_modules 1, refl, refl), refl);
  units = ([], [], no_units 0, ([], [], refl, refl, refl), refl);
}

pub files_in_order : FilesInOrder
files_in_order = record {
  read = record {
    lexed = ((use_tokens 0, ([], use_lexes 0)), ((end_alone 1, ([], nothing_lexes Asn 1)), ((use_tokens 2, ([], use_lexes 2)), tt)));
    parsed = ((use_in 0 ∷ [], one_use 0), (([], no_modules 1), ((use_in 2 ∷ [], one_use 2), tt)));
  };
  modules = ([], [], refl, ([], [], no_modules 1, ([], [], refl, refl, refl), refl), refl);
  units = (use_in 0 ∷ [], use_in 2 ∷ [], one_use 0, ([], use_in 2 ∷ [], refl, (use_in 2 ∷ [], [], one_use 2, refl, refl), refl), refl);
}

-- ---- violations

bracket_lexes : LexesIn Asn 0 (codes "[") (at_column 0 (token.AsnMark asn_mark.LeftBracket) 1 0 1 ∷ at_column 0 token.End 2 1 1 ∷ []) []
bracket_lexes = record {
  pieces = record { shape = shape.AsnSign asn_mark.LeftBracket; text = codes "[" } ∷ [];
  cuts = ([], record { joined = refl; is_of = refl; follows = tt }, tt, refl);
  tokens_are = refl;
  comments_are = refl;
}

abbrev semicolon_tokens : ℕ → List Spanned
semicolon_tokens file = at_column file (token.Mark mark.Semicolon) 1 0 1 ∷ at_column file token.End 2 1 1 ∷ []

semicolon_lexes : (file : ℕ) → LexesIn Sdl file (codes ";") (semicolon_tokens file) []
semicolon_lexes file = record {
  pieces = record { shape = shape.Sign mark.Semicolon; text = codes ";" } ∷ [];
  cuts = ([], record { joined = refl; is_of = refl; follows = tt }, tt, refl);
  tokens_are = refl;
  comments_are = refl;
}

underline_breaks : (file : ℕ) → FirstLexicalIn Sdl file (codes "_") (broken_in file L1)
unfolding class_of
underline_breaks file = record { before = []; rest = codes "_"; cuts = refl; breaks = (95, [], refl, inr refl); place = refl }

bracket_breaks : (file : ℕ) → FirstLexicalIn Sdl file (codes "[") (broken_in file L1)
unfolding class_of
bracket_breaks file = record { before = []; rest = codes "["; cuts = refl; breaks = (91, [], refl, inl refl); place = refl }

quote_breaks : (file : ℕ) → FirstLexicalIn Sdl file (codes "'") (broken_in file L2)
quote_breaks file = record { before = []; rest = codes "'"; cuts = refl; breaks = inr ([], refl, refl); place = refl }

pub languages_differ : LanguagesDiffer
languages_differ = ((at_column 0 (token.AsnMark asn_mark.LeftBracket) 1 0 1 ∷ at_column 0 token.End 2 1 1 ∷ [], ([], bracket_lexes)), bracket_breaks 0)

pub first_of_two_files : FirstOfTwoFiles
first_of_two_files = inl (inl (underline_breaks 0))

pub second_of_two_files : SecondOfTwoFiles
second_of_two_files = inl (inr ((end_alone 0, ([], nothing_lexes Asn 0)), inl (quote_breaks 1)))

pub tokens_come_first : TokensComeFirst
tokens_come_first = inl (inr ((semicolon_tokens 0, ([], semicolon_lexes 0)), inl (underline_breaks 1)))

-- ---- no text begins with a semicolon

-- a rule of the part was taken
part_ways : {table : List Symbol} {p : ℕ} {rest : List Symbol} {ts cs : List ℕ} → Derives table (Part p ∷ rest) ts cs
    → (c : ℕ) × (way : List Symbol) × (others : List ℕ) × (slice_get (rules_of p table) c ≡ Some way) × Derives table (way ++ rest) ts others
part_ways (chosen {choices = others} _ c way w d) = (c, way, others, w, d)

many_ways : {table : List Symbol} {p : ℕ} {rest : List Symbol} {ts cs : List ℕ} → Derives table (Many p ∷ rest) ts cs
    → (c : ℕ) × (way : List Symbol) × (others : List ℕ) × (slice_get ([] ∷ (Part p ∷ Many p ∷ []) ∷ []) c ≡ Some way) × Derives table (way ++ rest) ts others
many_ways (chosen {choices = others} _ c way w d) = (c, way, others, w, d)

one_way : (x way : List Symbol) (c : ℕ) → slice_get (x ∷ []) c ≡ Some way → x ≡ way
one_way x way zero w = same_some x way w
one_way x way (suc c) w = absurd (let no : ⊥ = cc in no)

two_ways : (x y way : List Symbol) (c : ℕ) → slice_get (x ∷ y ∷ []) c ≡ Some way → (x ≡ way) ⊎ (y ≡ way)
two_ways x y way zero w = inl (same_some x way w)
two_ways x y way (suc c) w = inr (one_way y way c w)

three_ways : (x y z way : List Symbol) (c : ℕ) → slice_get (x ∷ y ∷ z ∷ []) c ≡ Some way → (x ≡ way) ⊎ ((y ≡ way) ⊎ (z ≡ way))
three_ways x y z way zero w = inl (same_some x way w)
three_ways x y z way (suc c) w = inr (two_ways y z way c w)

taken : {table : List Symbol} {ts cs : List ℕ} (rest x way : List Symbol) → x ≡ way → Derives table (way ++ rest) ts cs → Derives table (x ++ rest) ts cs
taken {table = table} {ts = ts} {cs = cs} rest x way e d = subst (λ (w : List Symbol). Derives table (w ++ rest) ts cs) (sym e) d

differ : (m n : ℕ) → nat_eq m n ≡ false → m ≡ n → ⊥
differ m n f e = absurd (search arith)

-- a part whose one rule begins with a token derives no text with another token in front
headed : {rest : List Symbol} {ts cs : List ℕ} (table : List Symbol) (p t k : ℕ) (nesting : Nesting) (body : List Symbol) → rules_of p table ≡ (TokenDue t nesting ∷ body) ∷ [] → nat_eq t k ≡ false
    → Derives table (Part p ∷ rest) (k ∷ ts) cs → ⊥
headed {rest = rest} table p t k nesting body is apart d =
    let way = part_ways d in
    let here = one_way (TokenDue t nesting ∷ body) way.1 way.0 (subst (λ (rules : List (List Symbol)). slice_get rules way.0 ≡ Some way.1) is way.3) in
    differ t k apart (token_is (taken rest (TokenDue t nesting ∷ body) way.1 here way.4)).0

-- the kinds of `USE`, `SYSTEM` and `PROCESS` are not that of `;`, and neither is that of the end
no_unit : {rest : List Symbol} {ts cs : List ℕ} → Derives SDL (Part 120 ∷ rest) (4 ∷ ts) cs → ⊥
no_unit {rest = rest} {ts = ts} d =
    let way = part_ways d in
    by way.1 way.2 (three_ways (Part 121 ∷ []) (Part 122 ∷ []) (Part 140 ∷ []) way.1 way.0 way.3) way.4
  where
    by : (way : List Symbol) (cs : List ℕ) → (Part 121 ∷ [] ≡ way) ⊎ ((Part 122 ∷ [] ≡ way) ⊎ (Part 140 ∷ [] ≡ way)) → Derives SDL (way ++ rest) (4 ∷ ts) cs → ⊥
    by way cs (inl e) d = headed SDL 121 _ 4 _ _ refl refl (taken rest (Part 121 ∷ []) way e d)
    by way cs (inr (inl e)) d = headed SDL 122 _ 4 _ _ refl refl (taken rest (Part 122 ∷ []) way e d)
    by way cs (inr (inr e)) d = headed SDL 140 _ 4 _ _ refl refl (taken rest (Part 140 ∷ []) way e d)

no_units_so : {ts cs : List ℕ} → Derives SDL (Many 120 ∷ TokenDue LAST Keeps ∷ []) (4 ∷ ts) cs → ⊥
no_units_so {ts = ts} d =
    let way = many_ways d in
    by way.1 way.2 (two_ways [] (Part 120 ∷ Many 120 ∷ []) way.1 way.0 way.3) way.4
  where
    by : (way : List Symbol) (cs : List ℕ) → ([] ≡ way) ⊎ (Part 120 ∷ Many 120 ∷ [] ≡ way) → Derives SDL (way ++ TokenDue LAST Keeps ∷ []) (4 ∷ ts) cs → ⊥
    by way cs (inl e) d = differ LAST 4 refl (token_is (taken (TokenDue LAST Keeps ∷ []) [] way e d)).0
    by way cs (inr e) d = no_unit (taken (TokenDue LAST Keeps ∷ []) (Part 120 ∷ Many 120 ∷ []) way e d)

no_file_so : (ts cs : List ℕ) → Derives SDL (Part 0 ∷ TokenDue LAST Keeps ∷ []) (4 ∷ ts) cs → ⊥
no_file_so ts cs d =
    let way = part_ways d in
    no_units_so (taken (TokenDue LAST Keeps ∷ []) (Many 120 ∷ []) way.1 (one_way (Many 120 ∷ []) way.1 way.0 way.3) way.4)

semicolon_is_wrong : (file : ℕ) → IsFirstWrong SDL LAST LIMIT (kinds_of (semicolon_tokens file)) 0
semicolon_is_wrong file = record {
  front = [];
  wrong = 4;
  behind = 3 ∷ [];
  parts = refl;
  before = refl;
  begins = record {
    more = 3 ∷ [];
    choices = 0 ∷ 0 ∷ [];
    spells = chosen _ 0 _ refl (chosen _ 0 _ refl (token_met nothing));
    counts = [];
    later = 0 ∷ [];
    nests = takes _ 0 _ refl (takes _ 0 _ refl (meets ends));
    each = refl;
    within = tt;
  };
  none = no_file_so;
}

semicolon_breaks : (file : ℕ) → BreaksGrammar Sdl (FirstSyntactic SDL) file (codes ";") (broken_in file S1)
semicolon_breaks file = record {
  tokens = semicolon_tokens file;
  comments = [];
  lexes = semicolon_lexes file;
  first = inl (record { number = 0; first = semicolon_is_wrong file; rule = refl; place = (at_column file (token.Mark mark.Semicolon) 1 0 1, refl, refl) });
}

pub no_text_begins_so : NoTextBeginsSo
no_text_begins_so =
    inr (((end_alone 0, ([], nothing_lexes Asn 0)), ((semicolon_tokens 1, ([], semicolon_lexes 1)), tt)), inr (([], no_modules 0), inl (semicolon_breaks 1)))

pub first_of_two_texts : FirstOfTwoTexts
first_of_two_texts = inr (((semicolon_tokens 0, ([], semicolon_lexes 0)), ((semicolon_tokens 1, ([], semicolon_lexes 1)), tt)), inl (semicolon_breaks 0))
