-- The sheets of the bench examples, as they are written, and the setups that they yield.
use Rattle.std.specs.Prelude.{◌≡◌, List, [], ◌∷◌, ◌++◌, map, ℕ, ◌-◌, length, replicate}
use Prim.Native.String.{String}
use Rattle.setup.specs.declared.Kind.TheVariants.{Credential, Account}
use Rattle.std.specs.Prelude.{None, Some}
use Rattle.setup.specs.declared.Vertex.{Vertex}
use Rattle.setup.specs.declared.Rows.{Rows}
use Rattle.setup.specs.declared.Graph.{Graph}
use Rattle.setup.specs.declared.Setup.{Setup}
use Rattle.setup.specs.Setup.{unused_vertex, no_vertices}
use Rattle.sheet_format.specs.Text.{bytes_of}
use Rattle.sheet_format.specs.Rows.{Each}
use Rattle.sheet_format.specs.Read.{read_sheet, accepted, refused}

-- ---- how they are written here

-- The lines of a sheet, each with LF.
abbrev pub lines_text : List String → List ℕ
lines_text [] = []
lines_text (line ∷ lines) = bytes_of line ++ (10 ∷ lines_text lines)

-- The given vertices stand first, and the places behind them are not in use.
abbrev pub places : List Vertex → List Vertex
places l = l ++ replicate (64 - length l) unused_vertex

-- The rows of the first colours; the others are empty.
abbrev pub rows : List ℕ → Rows
rows l = record { needs = l ++ replicate (8 - length l) 0 }

abbrev pub graph : List (List ℕ) → Graph
graph l = record { rows = map rows l ++ replicate (64 - length l) (rows []) }

-- A sheet's lines, and the setup that is expected of them.
pub record Sheet : Type 0 where
  pub lines : List String
  pub setup : Setup

-- Reading the sheet's bytes yields that setup.
abbrev pub ReadsSheet : Sheet → Type 0
ReadsSheet x = read_sheet (lines_text x.lines) ≡ accepted x.setup

-- The sheet's bytes are accepted, and P holds of the setup that is read from them, whatever is expected.
pub record Yields (x : Sheet) (P : Setup → Type 0) : Type 0 where
  pub setup : Setup
  pub reading : read_sheet (lines_text x.lines) ≡ accepted setup
  pub holds : P setup

-- ---- the sheet of document 01

abbrev pub bench : Sheet
bench =
    record {
      lines =
          "name kind start loss rank"
          ∷ "ordpw c 1 2 0"
          ∷ "mailpw c 1 1 0"
          ∷ "token c 3 2 0"
          ∷ "mail a - - 1"
          ∷ "order a - - 3"
          ∷ ""
          ∷ "from to colour rec"
          ∷ "mailpw mail 0 0"
          ∷ "ordpw order 0 0"
          ∷ "token order 0 0"
          ∷ "mail order 1 1"
          ∷ [];
      setup = record {
        count = 5;
        vertices = places
            (record { kind = Credential; start = Some 1; loss = Some 2; rank = 0 }
            ∷ record { kind = Credential; start = Some 1; loss = Some 1; rank = 0 }
            ∷ record { kind = Credential; start = Some 3; loss = Some 2; rank = 0 }
            ∷ record { kind = Account; start = None; loss = None; rank = 1 }
            ∷ record { kind = Account; start = None; loss = None; rank = 3 }
            ∷ []);
        graph = graph ([] ∷ [] ∷ [] ∷ (2 ∷ []) ∷ (5 ∷ 8 ∷ []) ∷ []);
        recovery = graph ([] ∷ [] ∷ [] ∷ [] ∷ (0 ∷ 8 ∷ []) ∷ []);
        held = no_vertices;
        opened = no_vertices;
      };
    }

-- The vertices of document 01's sheet.
abbrev pub ordpw : ℕ
ordpw = 0

abbrev pub mailpw : ℕ
mailpw = 1

abbrev pub token : ℕ
token = 2

abbrev pub mail : ℕ
mail = 3

abbrev pub order : ℕ
order = 4

-- ---- document 003's example 5, a ring; the start values, of which it says nothing, are 1

abbrev pub ring : Sheet
ring =
    record {
      lines =
          "name kind start loss rank"
          ∷ "pwd_backup c 1 - 0"
          ∷ "pwd_manager c 1 - 0"
          ∷ "device c 1 - 0"
          ∷ "seed c 1 - 0"
          ∷ "code c - - 0"
          ∷ "acc_backup a - - 0"
          ∷ ""
          ∷ "from to colour rec"
          ∷ "device code 0 0"
          ∷ "seed code 1 0"
          ∷ "pwd_backup acc_backup 0 0"
          ∷ "code acc_backup 0 0"
          ∷ "acc_backup pwd_manager 0 0"
          ∷ "acc_backup seed 0 0"
          ∷ "pwd_manager pwd_backup 0 0"
          ∷ [];
      setup = record {
        count = 6;
        vertices = places
            (record { kind = Credential; start = Some 1; loss = None; rank = 0 }
            ∷ record { kind = Credential; start = Some 1; loss = None; rank = 0 }
            ∷ record { kind = Credential; start = Some 1; loss = None; rank = 0 }
            ∷ record { kind = Credential; start = Some 1; loss = None; rank = 0 }
            ∷ record { kind = Credential; start = None; loss = None; rank = 0 }
            ∷ record { kind = Account; start = None; loss = None; rank = 0 }
            ∷ []);
        graph = graph ((2 ∷ []) ∷ (32 ∷ []) ∷ [] ∷ (32 ∷ []) ∷ (4 ∷ 8 ∷ []) ∷ (17 ∷ []) ∷ []);
        recovery = graph [];
        held = no_vertices;
        opened = no_vertices;
      };
    }

abbrev pub pwd_backup : ℕ
pwd_backup = 0

abbrev pub pwd_manager : ℕ
pwd_manager = 1

abbrev pub device : ℕ
device = 2

abbrev pub seed : ℕ
seed = 3

abbrev pub code : ℕ
code = 4

abbrev pub acc_backup : ℕ
acc_backup = 5

-- ---- one vertex, without an edge and with one to itself

abbrev pub alone : Sheet
alone =
    record {
      lines = "name kind start loss rank" ∷ "only a 5 - 0" ∷ "" ∷ "from to colour rec" ∷ [];
      setup = record {
        count = 1;
        vertices = places (record { kind = Account; start = Some 5; loss = None; rank = 0 } ∷ []);
        graph = graph [];
        recovery = graph [];
        held = no_vertices;
        opened = no_vertices;
      };
    }

abbrev pub closed : Sheet
closed =
    record {
      lines = "name kind start loss rank" ∷ "only a - - 0" ∷ "" ∷ "from to colour rec" ∷ [];
      setup = record {
        count = 1;
        vertices = places (record { kind = Account; start = None; loss = None; rank = 0 } ∷ []);
        graph = graph [];
        recovery = graph [];
        held = no_vertices;
        opened = no_vertices;
      };
    }

abbrev pub loop : Sheet
loop =
    record {
      lines = "name kind start loss rank" ∷ "only a - 4 0" ∷ "" ∷ "from to colour rec" ∷ "only only 0 0" ∷ [];
      setup = record {
        count = 1;
        vertices = places (record { kind = Account; start = None; loss = Some 4; rank = 0 } ∷ []);
        graph = graph ((1 ∷ []) ∷ []);
        recovery = graph [];
        held = no_vertices;
        opened = no_vertices;
      };
    }

abbrev pub only : ℕ
only = 0

-- ---- two that open each other

abbrev pub pair : Sheet
pair =
    record {
      lines = "name kind start loss rank" ∷ "p a - 1 0" ∷ "q a - 1 0" ∷ "" ∷ "from to colour rec" ∷ "p q 0 0" ∷ "q p 0 0" ∷ [];
      setup = record {
        count = 2;
        vertices = places (record { kind = Account; start = None; loss = Some 1; rank = 0 } ∷ record { kind = Account; start = None; loss = Some 1; rank = 0 } ∷ []);
        graph = graph ((2 ∷ []) ∷ (1 ∷ []) ∷ []);
        recovery = graph [];
        held = no_vertices;
        opened = no_vertices;
      };
    }

abbrev pub p : ℕ
p = 0

abbrev pub q : ℕ
q = 1

-- ---- a zero value, and two colours, of which the last, 7, is recovery

abbrev pub spare : Sheet
spare =
    record {
      lines = "name kind start loss rank" ∷ "pw c 0 0 0" ∷ "key c 2 1 0" ∷ "acc a - - 1" ∷ "" ∷ "from to colour rec" ∷ "pw acc 0 0" ∷ "key acc 7 1" ∷ [];
      setup = record {
        count = 3;
        vertices = places
            (record { kind = Credential; start = Some 0; loss = Some 0; rank = 0 }
            ∷ record { kind = Credential; start = Some 2; loss = Some 1; rank = 0 }
            ∷ record { kind = Account; start = None; loss = None; rank = 1 }
            ∷ []);
        graph = graph ([] ∷ [] ∷ (1 ∷ 0 ∷ 0 ∷ 0 ∷ 0 ∷ 0 ∷ 0 ∷ 2 ∷ []) ∷ []);
        recovery = graph ([] ∷ [] ∷ (0 ∷ 0 ∷ 0 ∷ 0 ∷ 0 ∷ 0 ∷ 0 ∷ 2 ∷ []) ∷ []);
        held = no_vertices;
        opened = no_vertices;
      };
    }

abbrev pub pw : ℕ
pw = 0

abbrev pub key : ℕ
key = 1

abbrev pub acc : ℕ
acc = 2

-- ---- 64 items, with an edge from the last to the first

abbrev pub full : Sheet
full =
    record {
      lines =
          "name kind start loss rank"
          ∷ "i0 c - - 0" ∷ "i1 c - - 0" ∷ "i2 c - - 0" ∷ "i3 c - - 0" ∷ "i4 c - - 0" ∷ "i5 c - - 0" ∷ "i6 c - - 0"
          ∷ "i7 c - - 0" ∷ "i8 c - - 0" ∷ "i9 c - - 0" ∷ "i10 c - - 0" ∷ "i11 c - - 0" ∷ "i12 c - - 0" ∷ "i13 c - - 0"
          ∷ "i14 c - - 0" ∷ "i15 c - - 0" ∷ "i16 c - - 0" ∷ "i17 c - - 0" ∷ "i18 c - - 0" ∷ "i19 c - - 0" ∷ "i20 c - - 0"
          ∷ "i21 c - - 0" ∷ "i22 c - - 0" ∷ "i23 c - - 0" ∷ "i24 c - - 0" ∷ "i25 c - - 0" ∷ "i26 c - - 0" ∷ "i27 c - - 0"
          ∷ "i28 c - - 0" ∷ "i29 c - - 0" ∷ "i30 c - - 0" ∷ "i31 c - - 0" ∷ "i32 c - - 0" ∷ "i33 c - - 0" ∷ "i34 c - - 0"
          ∷ "i35 c - - 0" ∷ "i36 c - - 0" ∷ "i37 c - - 0" ∷ "i38 c - - 0" ∷ "i39 c - - 0" ∷ "i40 c - - 0" ∷ "i41 c - - 0"
          ∷ "i42 c - - 0" ∷ "i43 c - - 0" ∷ "i44 c - - 0" ∷ "i45 c - - 0" ∷ "i46 c - - 0" ∷ "i47 c - - 0" ∷ "i48 c - - 0"
          ∷ "i49 c - - 0" ∷ "i50 c - - 0" ∷ "i51 c - - 0" ∷ "i52 c - - 0" ∷ "i53 c - - 0" ∷ "i54 c - - 0" ∷ "i55 c - - 0"
          ∷ "i56 c - - 0" ∷ "i57 c - - 0" ∷ "i58 c - - 0" ∷ "i59 c - - 0" ∷ "i60 c - - 0" ∷ "i61 c - - 0" ∷ "i62 c - - 0"
          ∷ "i63 c 5 6 0"
          ∷ ""
          ∷ "from to colour rec"
          ∷ "i63 i0 7 0"
          ∷ [];
      setup = record {
        count = 64;
        vertices = replicate 63 unused_vertex ++ (record { kind = Credential; start = Some 5; loss = Some 6; rank = 0 } ∷ []);
        graph = graph ((0 ∷ 0 ∷ 0 ∷ 0 ∷ 0 ∷ 0 ∷ 0 ∷ 9223372036854775808 ∷ []) ∷ []);
        recovery = graph [];
        held = no_vertices;
        opened = no_vertices;
      };
    }

abbrev pub first : ℕ
first = 0

abbrev pub last : ℕ
last = 63

-- ---- the largest value, and two of half of it (document 02, point 5)

abbrev pub halves : Sheet
halves =
    record {
      lines =
          "name kind start loss rank"
          ∷ "whole c 4000000000 4000000000 0"
          ∷ "half c 2000000000 2000000000 0"
          ∷ "other c 2000000000 2000000000 0"
          ∷ "level a - - 0"
          ∷ "sum a - - 0"
          ∷ ""
          ∷ "from to colour rec"
          ∷ "whole level 0 0"
          ∷ "half level 1 0"
          ∷ "other level 1 0"
          ∷ "whole sum 0 0"
          ∷ "half sum 0 0"
          ∷ "other sum 0 0"
          ∷ [];
      setup = record {
        count = 5;
        vertices = places
            (record { kind = Credential; start = Some 4000000000; loss = Some 4000000000; rank = 0 }
            ∷ record { kind = Credential; start = Some 2000000000; loss = Some 2000000000; rank = 0 }
            ∷ record { kind = Credential; start = Some 2000000000; loss = Some 2000000000; rank = 0 }
            ∷ record { kind = Account; start = None; loss = None; rank = 0 }
            ∷ record { kind = Account; start = None; loss = None; rank = 0 }
            ∷ []);
        graph = graph ([] ∷ [] ∷ [] ∷ (1 ∷ 6 ∷ []) ∷ (7 ∷ []) ∷ []);
        recovery = graph [];
        held = no_vertices;
        opened = no_vertices;
      };
    }

abbrev pub whole : ℕ
whole = 0

abbrev pub half : ℕ
half = 1

abbrev pub other : ℕ
other = 2

abbrev pub level : ℕ
level = 3

abbrev pub sum : ℕ
sum = 4

-- ---- the note opens the vault, which together with the card opens the shop; all but the shop are starting items (document 02, point 13)

abbrev pub relay : Sheet
relay =
    record {
      lines =
          "name kind start loss rank"
          ∷ "note c 1 1 0"
          ∷ "vault c 1 1 0"
          ∷ "card c 1 1 0"
          ∷ "shop a - - 0"
          ∷ ""
          ∷ "from to colour rec"
          ∷ "note vault 0 0"
          ∷ "vault shop 0 0"
          ∷ "card shop 0 0"
          ∷ [];
      setup = record {
        count = 4;
        vertices = places
            (record { kind = Credential; start = Some 1; loss = Some 1; rank = 0 }
            ∷ record { kind = Credential; start = Some 1; loss = Some 1; rank = 0 }
            ∷ record { kind = Credential; start = Some 1; loss = Some 1; rank = 0 }
            ∷ record { kind = Account; start = None; loss = None; rank = 0 }
            ∷ []);
        graph = graph ([] ∷ (1 ∷ []) ∷ [] ∷ (6 ∷ []) ∷ []);
        recovery = graph [];
        held = no_vertices;
        opened = no_vertices;
      };
    }

abbrev pub note : ℕ
note = 0

abbrev pub vault : ℕ
vault = 1

abbrev pub card : ℕ
card = 2

abbrev pub shop : ℕ
shop = 3

-- ---- document 003's figure 1, whose leaves figure 7 gives attackers; the values, of which the text says nothing, are 1

abbrev pub figure1 : Sheet
figure1 =
    record {
      lines =
          "name kind start loss rank"
          ∷ "pwd_shop c 1 1 0"
          ∷ "pwd_mail c 1 1 0"
          ∷ "device c 1 1 0"
          ∷ "finger c 1 1 0"
          ∷ "pin c 1 1 0"
          ∷ "code c - - 0"
          ∷ "acc_mail a - - 2"
          ∷ "acc_shop a - - 1"
          ∷ ""
          ∷ "from to colour rec"
          ∷ "device code 0 0"
          ∷ "finger code 0 0"
          ∷ "device code 1 0"
          ∷ "pin code 1 0"
          ∷ "pwd_mail acc_mail 0 0"
          ∷ "code acc_mail 0 0"
          ∷ "pwd_shop acc_shop 0 0"
          ∷ "acc_mail acc_shop 1 1"
          ∷ [];
      setup = record {
        count = 8;
        vertices = places
            (record { kind = Credential; start = Some 1; loss = Some 1; rank = 0 }
            ∷ record { kind = Credential; start = Some 1; loss = Some 1; rank = 0 }
            ∷ record { kind = Credential; start = Some 1; loss = Some 1; rank = 0 }
            ∷ record { kind = Credential; start = Some 1; loss = Some 1; rank = 0 }
            ∷ record { kind = Credential; start = Some 1; loss = Some 1; rank = 0 }
            ∷ record { kind = Credential; start = None; loss = None; rank = 0 }
            ∷ record { kind = Account; start = None; loss = None; rank = 2 }
            ∷ record { kind = Account; start = None; loss = None; rank = 1 }
            ∷ []);
        graph = graph ([] ∷ [] ∷ [] ∷ [] ∷ [] ∷ (12 ∷ 20 ∷ []) ∷ (34 ∷ []) ∷ (1 ∷ 64 ∷ []) ∷ []);
        recovery = graph ([] ∷ [] ∷ [] ∷ [] ∷ [] ∷ [] ∷ [] ∷ (0 ∷ 64 ∷ []) ∷ []);
        held = no_vertices;
        opened = no_vertices;
      };
    }

abbrev pub acc_mail : ℕ
acc_mail = 6

abbrev pub acc_shop : ℕ
acc_shop = 7

-- ---- document 003's figure 6, two passwords of 1 or a device of 2, and an account that either opens; a 4, or a 3 with a 0

abbrev pub figure6 : Sheet
figure6 =
    record {
      lines =
          "name kind start loss rank"
          ∷ "pwd_a c 1 - 0"
          ∷ "pwd_b c 1 - 0"
          ∷ "device c 2 - 0"
          ∷ "acc_a a - - 0"
          ∷ "acc_b a - - 0"
          ∷ "either a - - 0"
          ∷ ""
          ∷ "from to colour rec"
          ∷ "pwd_a acc_a 0 0"
          ∷ "pwd_b acc_a 0 0"
          ∷ "device acc_b 0 0"
          ∷ "acc_a either 0 0"
          ∷ "acc_b either 1 0"
          ∷ [];
      setup = record {
        count = 6;
        vertices = places
            (record { kind = Credential; start = Some 1; loss = None; rank = 0 }
            ∷ record { kind = Credential; start = Some 1; loss = None; rank = 0 }
            ∷ record { kind = Credential; start = Some 2; loss = None; rank = 0 }
            ∷ record { kind = Account; start = None; loss = None; rank = 0 }
            ∷ record { kind = Account; start = None; loss = None; rank = 0 }
            ∷ record { kind = Account; start = None; loss = None; rank = 0 }
            ∷ []);
        graph = graph ([] ∷ [] ∷ [] ∷ (3 ∷ []) ∷ (4 ∷ []) ∷ (8 ∷ 16 ∷ []) ∷ []);
        recovery = graph [];
        held = no_vertices;
        opened = no_vertices;
      };
    }

abbrev pub pwd_a : ℕ
pwd_a = 0

abbrev pub pwd_b : ℕ
pwd_b = 1

abbrev pub device_b : ℕ
device_b = 2

abbrev pub acc_a : ℕ
acc_a = 3

abbrev pub acc_b : ℕ
acc_b = 4

abbrev pub either : ℕ
either = 5

abbrev pub zeroed : Sheet
zeroed =
    record {
      lines =
          "name kind start loss rank"
          ∷ "four c 4 - 0"
          ∷ "three c 3 - 0"
          ∷ "zero c 0 - 0"
          ∷ "low c 3 - 0"
          ∷ "nil c 0 - 0"
          ∷ "t a - - 0"
          ∷ ""
          ∷ "from to colour rec"
          ∷ "four t 0 0"
          ∷ "three t 1 0"
          ∷ "zero t 1 0"
          ∷ "nil t 2 0"
          ∷ "low t 2 0"
          ∷ [];
      setup = record {
        count = 6;
        vertices = places
            (record { kind = Credential; start = Some 4; loss = None; rank = 0 }
            ∷ record { kind = Credential; start = Some 3; loss = None; rank = 0 }
            ∷ record { kind = Credential; start = Some 0; loss = None; rank = 0 }
            ∷ record { kind = Credential; start = Some 3; loss = None; rank = 0 }
            ∷ record { kind = Credential; start = Some 0; loss = None; rank = 0 }
            ∷ record { kind = Account; start = None; loss = None; rank = 0 }
            ∷ []);
        graph = graph ([] ∷ [] ∷ [] ∷ [] ∷ [] ∷ (1 ∷ 6 ∷ 24 ∷ []) ∷ []);
        recovery = graph [];
        held = no_vertices;
        opened = no_vertices;
      };
    }

-- Three pairs of items into t; the first and the last have the same values.
abbrev pub outer : Sheet
outer =
    record {
      lines =
          "name kind start loss rank"
          ∷ "a c 5 - 0"
          ∷ "b c 1 - 0"
          ∷ "c c 3 - 0"
          ∷ "d c 3 - 0"
          ∷ "e c 5 - 0"
          ∷ "f c 1 - 0"
          ∷ "t a - - 0"
          ∷ ""
          ∷ "from to colour rec"
          ∷ "a t 0 0"
          ∷ "b t 0 0"
          ∷ "c t 1 0"
          ∷ "d t 1 0"
          ∷ "e t 2 0"
          ∷ "f t 2 0"
          ∷ [];
      setup = record {
        count = 7;
        vertices = places
            (record { kind = Credential; start = Some 5; loss = None; rank = 0 }
            ∷ record { kind = Credential; start = Some 1; loss = None; rank = 0 }
            ∷ record { kind = Credential; start = Some 3; loss = None; rank = 0 }
            ∷ record { kind = Credential; start = Some 3; loss = None; rank = 0 }
            ∷ record { kind = Credential; start = Some 5; loss = None; rank = 0 }
            ∷ record { kind = Credential; start = Some 1; loss = None; rank = 0 }
            ∷ record { kind = Account; start = None; loss = None; rank = 0 }
            ∷ []);
        graph = graph ([] ∷ [] ∷ [] ∷ [] ∷ [] ∷ [] ∷ (3 ∷ 12 ∷ 48 ∷ []) ∷ []);
        recovery = graph [];
        held = no_vertices;
        opened = no_vertices;
      };
    }

-- Three pairs of items into t; the second has other values than the first and the last, and the highest.
abbrev pub inner : Sheet
inner =
    record {
      lines =
          "name kind start loss rank"
          ∷ "a c 3 - 0"
          ∷ "b c 3 - 0"
          ∷ "c c 5 - 0"
          ∷ "d c 1 - 0"
          ∷ "e c 3 - 0"
          ∷ "f c 3 - 0"
          ∷ "t a - - 0"
          ∷ ""
          ∷ "from to colour rec"
          ∷ "a t 0 0"
          ∷ "b t 0 0"
          ∷ "c t 1 0"
          ∷ "d t 1 0"
          ∷ "e t 2 0"
          ∷ "f t 2 0"
          ∷ [];
      setup = record {
        count = 7;
        vertices = places
            (record { kind = Credential; start = Some 3; loss = None; rank = 0 }
            ∷ record { kind = Credential; start = Some 3; loss = None; rank = 0 }
            ∷ record { kind = Credential; start = Some 5; loss = None; rank = 0 }
            ∷ record { kind = Credential; start = Some 1; loss = None; rank = 0 }
            ∷ record { kind = Credential; start = Some 3; loss = None; rank = 0 }
            ∷ record { kind = Credential; start = Some 3; loss = None; rank = 0 }
            ∷ record { kind = Account; start = None; loss = None; rank = 0 }
            ∷ []);
        graph = graph ([] ∷ [] ∷ [] ∷ [] ∷ [] ∷ [] ∷ (3 ∷ 12 ∷ 48 ∷ []) ∷ []);
        recovery = graph [];
        held = no_vertices;
        opened = no_vertices;
      };
    }

-- Two pairs of items into t, of which the second has the lower values.
abbrev pub later : Sheet
later =
    record {
      lines =
          "name kind start loss rank"
          ∷ "a c 5 - 0"
          ∷ "b c 5 - 0"
          ∷ "c c 1 - 0"
          ∷ "d c 1 - 0"
          ∷ "t a - - 0"
          ∷ ""
          ∷ "from to colour rec"
          ∷ "a t 0 0"
          ∷ "b t 0 0"
          ∷ "c t 1 0"
          ∷ "d t 1 0"
          ∷ [];
      setup = record {
        count = 5;
        vertices = places
            (record { kind = Credential; start = Some 5; loss = None; rank = 0 }
            ∷ record { kind = Credential; start = Some 5; loss = None; rank = 0 }
            ∷ record { kind = Credential; start = Some 1; loss = None; rank = 0 }
            ∷ record { kind = Credential; start = Some 1; loss = None; rank = 0 }
            ∷ record { kind = Account; start = None; loss = None; rank = 0 }
            ∷ []);
        graph = graph ([] ∷ [] ∷ [] ∷ [] ∷ (3 ∷ 12 ∷ []) ∷ []);
        recovery = graph [];
        held = no_vertices;
        opened = no_vertices;
      };
    }

-- ---- all of them

abbrev pub sheets : List Sheet
sheets = bench ∷ ring ∷ alone ∷ closed ∷ loop ∷ pair ∷ spare ∷ full ∷ halves ∷ relay ∷ figure1 ∷ figure6 ∷ zeroed ∷ outer ∷ inner ∷ later ∷ []

-- Each text is accepted, and yields the setup that stands beside it.
abbrev pub AllRead : Type 0
AllRead = Each ReadsSheet sheets

-- ---- refused sheets

-- The lines of a sheet, and the number and the line of its first no.
pub record RefusedSheet : Type 0 where
  pub lines : List String
  pub number : ℕ
  pub line : ℕ

abbrev pub RefusesSheet : RefusedSheet → Type 0
RefusesSheet x = read_sheet (lines_text x.lines) ≡ refused x.number x.line

abbrev pub h1 : String
h1 = "name kind start loss rank"

abbrev pub h2 : String
h2 = "from to colour rec"

abbrev pub items : List String → List String
items l = h1 ∷ l

-- One item a, and these edge rows.
abbrev pub edges : List String → List String
edges l = h1 ∷ "a c - - 0" ∷ "" ∷ h2 ∷ l

abbrev pub no : ℕ → ℕ → List String → RefusedSheet
no number line lines = record { lines = lines; number = number; line = line }

abbrev pub refused_sheets : List RefusedSheet
refused_sheets =
    no 2 0 []
    ∷ no 3 1 ("name kind start loss" ∷ [])
    ∷ no 3 4 (items ("a c - - 0" ∷ "" ∷ "from to colour" ∷ []))
    ∷ no 10 2 (items ("" ∷ []))
    -- 4: too few fields, which is asked before the name's form; too many; an empty one; a space at the end; an empty line among edges
    ∷ no 4 2 (items ("A c - -" ∷ []))
    ∷ no 4 2 (items ("a c - - 0 0" ∷ []))
    ∷ no 4 2 (items ("a c  - 0" ∷ []))
    ∷ no 4 2 (items ("a c - - 0 " ∷ []))
    ∷ no 4 5 (edges ("B a 0" ∷ []))
    ∷ no 4 5 (edges ("" ∷ []))
    -- 5: each field
    ∷ no 5 2 (items ("aA c - - 0" ∷ []))
    ∷ no 5 2 (items ("aaaaaaaaaaaaaaaaa c - - 0" ∷ []))
    ∷ no 5 2 (items ("a b - - 0" ∷ []))
    ∷ no 5 2 (items ("a c 4000000001 - 0" ∷ []))
    ∷ no 5 2 (items ("a c - 4000000001 0" ∷ []))
    ∷ no 5 2 (items ("a c - 4294967297 0" ∷ []))
    ∷ no 5 2 (items ("a c 18446744073709551617 - 0" ∷ []))
    ∷ no 5 2 (items ("a c 00 - 0" ∷ []))
    ∷ no 5 2 (items ("a c - 1x 0" ∷ []))
    ∷ no 5 2 (items ("a c - - 10" ∷ []))
    ∷ no 5 2 (items ("a c - - -" ∷ []))
    ∷ no 5 5 (edges ("A a 0 0" ∷ []))
    ∷ no 5 5 (edges ("a A 0 0" ∷ []))
    ∷ no 5 5 (edges ("a a 8 0" ∷ []))
    ∷ no 5 5 (edges ("a a 0 2" ∷ []))
    -- 6, and no line below it is asked; 8, of either name; 9, whether recovery or not
    ∷ no 6 3 (items ("a c - - 0" ∷ "a a 1 1 1" ∷ "b" ∷ []))
    ∷ no 8 5 (edges ("b a 0 0" ∷ []))
    ∷ no 8 5 (edges ("a b 0 0" ∷ []))
    ∷ no 9 7 (edges ("a a 0 0" ∷ "a a 1 0" ∷ "a a 0 1" ∷ []))
    -- 11, where the text is over too early
    ∷ no 11 2 (items [])
    ∷ no 11 3 (items ("a c - - 0" ∷ []))
    ∷ no 11 4 (items ("a c - - 0" ∷ "" ∷ []))
    ∷ []

abbrev pub AllRefused : Type 0
AllRefused = Each RefusesSheet refused_sheets
